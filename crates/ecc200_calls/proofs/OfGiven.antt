-- What a call gives for the symbol of the modules that it is given, and for the doubtful ones of them.
use Rattle.ecc200_calls.proofs.Names.{◌≡◌, ℕ, zero, suc, ◌*◌, ◌<◌, Bool, true, false, List, [], ◌∷◌, length, get_or}
use Rattle.ecc200_calls.proofs.Names.{map, Some, ◌≢◌, Option, None, refl, ◌∙◌, ap, arith, subst, nat_eq, ◌&&◌}
use Rattle.ecc200_calls.proofs.Names.{and_parts, eqb-true, Profile, AreLight, content_normal_alike, content_read_alike}
use Rattle.ecc200_calls.proofs.Names.{light_rows, shown_alike, SizeEntry, entry_with, size_table, found_passes}
use Rattle.ecc200_calls.proofs.Names.{SymbolView, is_dark_number, rows_of, SymbolOut, AreDoubtful, Err, Ok}
use Rattle.ecc200_calls.proofs.Names.{AreModulesOf, IsGivenFault, IsReadingGiven, SoughtResult, IsNormalGiven, Extent}
use Rattle.ecc200_calls.proofs.Names.{IsInspectResult, IsInspectionGiven, IsAtLimit, no_symbol}
use Rattle.ecc200_calls.specs.Readings.{no_reading}
use Rattle.ecc200_calls.specs.declared.fault.Fault.{Fault}
use Rattle.ecc200_calls.specs.declared.inspection.InspectionOut.{InspectionOut}
use Rattle.ecc200_calls.specs.declared.reading.ReadingOut.{ReadingOut}
use Rattle.ecc200_calls.specs.Faults.{fault}
use Rattle.ecc200_calls.specs.declared.scan.Sought.{Sought}
use Rattle.ecc200_calls.specs.inner.Given.{AreZero, IsKnown, IsOfGiven}
use Rattle.ecc200_calls.proofs.Limits.{limit_alike}

-- The size with these rows and columns has them.
pub sides_found : (rows columns : ℕ) (size : SizeEntry) → entry_with rows columns ≡ Some size
    → (size.rows ≡ rows) × (size.columns ≡ columns)
sides_found rows columns size e =
    let both =
    and_parts (nat_eq size.rows rows) (nat_eq size.columns columns)
    (found_passes (λ s. nat_eq s.rows rows && nat_eq s.columns columns) size_table size e) in
    (eqb-true _ _ both.0, eqb-true _ _ both.1)

-- Where numbers for doubtful modules are given that aren't as many as the modules of a symbol, that is the fault.
pub doubt_fault : (rows columns : ℕ) (modules doubt : List ℕ) (size : SizeEntry) → entry_with rows columns ≡ Some size
    → length modules ≡ rows * columns → doubt ≢ [] → length doubt ≢ rows * columns
    → IsGivenFault rows columns modules doubt (fault 19 0 0)
doubt_fault rows columns modules doubt size e count given other =
    IsGivenFault.of_doubt (record { size = size; rows = rows_of rows columns (map is_dark_number modules) })
    (record { count = count; size = e; colours = refl }) given other refl

-- Colours whose numbers are 0 are light.
zeros_are_light : (numbers : List ℕ) → AreZero numbers → (k : ℕ) → k < length (map is_dark_number numbers)
    → get_or (map is_dark_number numbers) k false ≡ false
zeros_are_light [] h k l = refl
zeros_are_light (x ∷ xs) h zero l = ap is_dark_number (h zero (omega arith))
zeros_are_light (x ∷ xs) h (suc k) l = zeros_are_light xs (λ j m. h (suc j) (omega (arith, m))) k (omega (arith, l))

-- What is so of the symbol of the modules, and of the doubtful ones of them, is so of what is given; if what is so of
-- the symbol alone is so too where all modules that are given as doubtful are light.
given_by : (rows columns : ℕ) (modules doubt : List ℕ) (size : SizeEntry) (some : Bool)
    (Result : SymbolView → Option SymbolView → Type 0) (Whole : Type 0)
    → ((symbol : SymbolView) (doubtful : Option SymbolView) → AreModulesOf rows columns modules symbol
    → AreDoubtful rows columns doubt doubtful → Result symbol doubtful → Whole)
    → ((symbol doubtful : SymbolView) → AreLight doubtful → Result symbol None → Result symbol (Some doubtful))
    → IsKnown rows columns modules doubt size some → IsOfGiven size modules doubt some Result → Whole
given_by rows columns modules doubt size some Result Whole of_symbol alike known of = by_doubt doubt refl of
  where
    made : (numbers : List ℕ) (symbol : SymbolView) → AreModulesOf size.rows size.columns numbers symbol
        → AreModulesOf rows columns numbers symbol
    made numbers symbol are =
        rw (known.rows_are, known.columns_are) at are

    by_doubt : (numbers : List ℕ) → doubt ≡ numbers → IsOfGiven size modules doubt some Result → Whole
    by_doubt numbers e (IsOfGiven.doubted symbol doubtful some_told are those result) =
        of_symbol symbol (Some doubtful) (made modules symbol are)
        (AreDoubtful.some doubtful (known.doubtful some_told) (made doubt doubtful those) refl) result
    by_doubt [] e (IsOfGiven.sure symbol none_told are result) =
        of_symbol symbol None (made modules symbol are) (AreDoubtful.none e refl) result
    by_doubt (x ∷ xs) e (IsOfGiven.sure symbol none_told are result) =
        let light : SymbolView =
        record { size = size; rows = rows_of rows columns (map is_dark_number doubt) } in
        let some_numbers : doubt ≢ [] = λ none. cc in
        let count : length doubt ≡ rows * columns =
        rw (known.rows_are, known.columns_are) at (known.doubt_count some_numbers) in
        of_symbol symbol (Some light) (made modules symbol are)
        (AreDoubtful.some light some_numbers (record { count = count; size = known.entry; colours = refl }) refl)
        (alike symbol light
        (light_rows rows columns (map is_dark_number doubt) (zeros_are_light doubt (known.sure none_told))) result)

-- What follows of what is so of the symbol is so of what is given.
pub given_too : (size : SizeEntry) (modules doubt : List ℕ) (some : Bool)
    (Result Other : SymbolView → Option SymbolView → Type 0)
    → ((symbol : SymbolView) (doubtful : Option SymbolView) → Result symbol doubtful → Other symbol doubtful)
    → IsOfGiven size modules doubt some Result → IsOfGiven size modules doubt some Other
given_too size modules doubt some Result Other so (IsOfGiven.sure symbol told are result) =
    IsOfGiven.sure symbol told are (so symbol None result)
given_too size modules doubt some Result Other so (IsOfGiven.doubted symbol doubtful told are those result) =
    IsOfGiven.doubted symbol doubtful told are those (so symbol (Some doubtful) result)

-- What is sought in a symbol is given by a call, if what is given is so too where all modules that are given as
-- doubtful are light.
sought_of_given : (sought : Sought) (modules doubt : List ℕ) (size : SizeEntry) (some : Bool) (Refused : Fault → Type 0)
    (Given : SymbolView → Option SymbolView → ℕ → Type 0) → IsKnown sought.rows sought.columns modules doubt size some
    → ((symbol doubtful : SymbolView) (limit : ℕ) → AreLight doubtful → Given symbol None limit
    → Given symbol (Some doubtful) limit)
    → IsOfGiven size modules doubt some (IsAtLimit sought Given) → SoughtResult sought modules doubt Refused Given
sought_of_given sought modules doubt size some Refused Given known alike of =
    given_by sought.rows sought.columns modules doubt size some _ _
    (λ symbol doubtful are those r. SoughtResult.of_symbol symbol doubtful r.limit are those r.limit_is r.given)
    (λ symbol doubtful light r. record {
      limit = r.limit;
      limit_is = limit_alike doubtful light symbol sought.extent sought.limit r.limit r.limit_is;
      given = alike symbol doubtful r.limit light r.given;
    }) known of

-- What is given where a symbol is read is given too with doubtful modules that are all light.
reading_alike : (extent : Extent) (rows columns : ℕ) (symbol doubtful : SymbolView) (limit : ℕ)
    (before after : ReadingOut) → AreLight doubtful → IsReadingGiven extent rows columns symbol None limit before after
    → IsReadingGiven extent rows columns symbol (Some doubtful) limit before after
reading_alike extent rows columns symbol doubtful limit before after light (IsReadingGiven.read reading is shown) =
    IsReadingGiven.read reading (content_read_alike doubtful light symbol extent limit (Ok reading) is) shown
reading_alike extent rows columns symbol doubtful limit before after light (IsReadingGiven.refused why is shown) =
    IsReadingGiven.refused why (content_read_alike doubtful light symbol extent limit (Err why) is) shown

-- So it is where a symbol is normalised.
normal_alike : (extent : Extent) (profile : Profile) (symbol doubtful : SymbolView) (limit : ℕ)
    (before after : SymbolOut) → AreLight doubtful → IsNormalGiven extent profile symbol None limit before after
    → IsNormalGiven extent profile symbol (Some doubtful) limit before after
normal_alike extent profile symbol doubtful limit before after light (IsNormalGiven.normal normal is shown) =
    IsNormalGiven.normal normal (content_normal_alike doubtful light symbol extent limit profile (Ok normal) is) shown
normal_alike extent profile symbol doubtful limit before after light (IsNormalGiven.refused why is shown) =
    IsNormalGiven.refused why (content_normal_alike doubtful light symbol extent limit profile (Err why) is) shown

module _ (sought : Sought) (modules doubt : List ℕ) (size : SizeEntry) (some : Bool)
    (known : IsKnown sought.rows sought.columns modules doubt size some) where
  -- What reading the symbol gives is what the call gives.
  pub read_of_given : (before after : ReadingOut)
      → IsOfGiven size modules doubt some (IsAtLimit sought (λ symbol doubtful limit.
      IsReadingGiven sought.extent size.rows size.columns symbol doubtful limit before after))
      → SoughtResult sought modules doubt (λ why. after ≡ no_reading why before) (λ symbol doubtful limit.
      IsReadingGiven sought.extent sought.rows sought.columns symbol doubtful limit before after)
  read_of_given before after of =
      sought_of_given sought modules doubt size some _ _ known
      (λ symbol doubtful limit light r.
      reading_alike sought.extent sought.rows sought.columns symbol doubtful limit before after light r)
      (given_too size modules doubt some _ _ (λ symbol doubtful r. record {
        limit = r.limit;
        limit_is = r.limit_is;
        given = rw (known.rows_are, known.columns_are) at r.given;
      }) of)

  -- So it is where the symbol is normalised.
  pub normal_of_given : (profile : Profile) (before after : SymbolOut)
      → IsOfGiven size modules doubt some (IsAtLimit sought (λ symbol doubtful limit.
      IsNormalGiven sought.extent profile symbol doubtful limit before after))
      → SoughtResult sought modules doubt (λ why. after ≡ no_symbol why before) (λ symbol doubtful limit.
      IsNormalGiven sought.extent profile symbol doubtful limit before after)
  normal_of_given profile before after of =
      sought_of_given sought modules doubt size some _ _ known
      (λ symbol doubtful limit light r.
      normal_alike sought.extent profile symbol doubtful limit before after light r) of

-- So it is where the symbol is inspected.
pub shown_of_given : (rows columns : ℕ) (modules doubt : List ℕ) (size : SizeEntry) (some : Bool)
    → IsKnown rows columns modules doubt size some → (before after : InspectionOut)
    → IsOfGiven size modules doubt some (λ symbol doubtful.
    IsInspectionGiven size.rows size.columns symbol doubtful before after)
    → IsInspectResult rows columns modules doubt before after
shown_of_given rows columns modules doubt size some known before after of =
    given_by rows columns modules doubt size some _ _
    (λ symbol doubtful are those given. IsInspectResult.of_symbol symbol doubtful are those
    (rw (known.rows_are, known.columns_are) at given))
    (λ symbol doubtful light given. record {
      room = given.room;
      inspection = given.inspection;
      inspection_is = shown_alike doubtful light symbol given.inspection given.inspection_is;
      designators = given.designators;
    }) known of

-- What is so of a symbol of this size into which the modules are put is so of what is given, where none is doubtful.
pub sure_given : (size : SizeEntry) (modules doubt : List ℕ) (some : Bool)
    (Result : SizeEntry → SymbolView → Option SymbolView → Type 0) (before symbol : SymbolView) → some ≡ false
    → before.size ≡ size → symbol.size ≡ before.size
    → AreModulesOf before.size.rows before.size.columns modules symbol → Result symbol.size symbol None
    → IsOfGiven size modules doubt some (Result size)
sure_given size modules doubt some Result before symbol none_told e same are result =
    IsOfGiven.sure symbol none_told (rw e at are)
    (subst (λ (s : SizeEntry). Result s symbol None) (same ∙ e) result)

-- So it is where some are, whose numbers are put into another.
pub doubted_given : (size : SizeEntry) (modules doubt : List ℕ) (some : Bool)
    (Result : SizeEntry → SymbolView → Option SymbolView → Type 0) (before symbol other doubtful : SymbolView)
    → some ≡ true → before.size ≡ size → symbol.size ≡ before.size
    → AreModulesOf before.size.rows before.size.columns modules symbol → other.size ≡ size
    → AreModulesOf other.size.rows other.size.columns doubt doubtful → Result symbol.size symbol (Some doubtful)
    → IsOfGiven size modules doubt some (Result size)
doubted_given size modules doubt some Result before symbol other doubtful told e same are f those result =
    IsOfGiven.doubted symbol doubtful told (rw e at are) (rw f at those)
    (subst (λ (s : SizeEntry). Result s symbol (Some doubtful)) (same ∙ e) result)
