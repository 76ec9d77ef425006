-- The items that the scan finds among the values of a run are those that they spell.
use Rattle.dm_words.proofs.Names.{◌≡◌, ◌≢◌, ℕ, ◌+◌, ◌<◌, ◌≤◌, List, [], ◌∷◌, ◌++◌, length, take, drop, refl, sym}
use Rattle.dm_words.proofs.Names.{subst, arith, Option, Some, None, inl, inr, ◌⊎◌, AllByRecursion, nat_tests}
use Rattle.dm_words.proofs.Names.{recursion_from_All, take-append-drop, Item, Byte, CodeSet, C40, Text, X12, Shift}
use Rattle.dm_words.proofs.Names.{Basic, Shifted, basic_of, shifted_of, IsShifted, IsCharacter, by_shift, Extent, Wide}
use Rattle.dm_words.proofs.Names.{IsSpelling, IsFiller, nothing, lone_shift, IsRest, waiting, AreRunValues}
use Rattle.dm_words.proofs.Names.{BeginsNoSpelling, Step, Takes, Stops, first_raised, first_spelling}
use Rattle.dm_words.specs.declared.c40.set.Basic.TheVariants as basic
use Rattle.dm_words.specs.declared.c40.set.Shifted.TheVariants as shifted
use Rattle.dm_words.specs.declared.c40.value.Rest.{Rest}
use Rattle.dm_words.specs.declared.c40.value.Rest.TheVariants as left
use Rattle.dm_words.specs.Values.{plain, character, fnc1, raised, IsWaiting, BeginsShifted, at_once}
use Rattle.dm_words.specs.Values.{after_upper_shift, complete, meaningless, wrong_upper_shift}
use Rattle.dm_words.specs.inner.Scan.Prefixes.{raised_shifted, raised_by, shifted_by, spelling_by}
use Rattle.dm_words.proofs.Walks.{IsSound, IsComplete}

-- A spelling is right wherever it stands.
abbrev pub ItemRight : CodeSet → ℕ → List ℕ → List ℕ → Item → Type 0
ItemRight set place values after item = IsSpelling set values item

-- Any values will do.
abbrev pub Anything : List ℕ → Type 0
Anything values = Unit {0}

-- Each value is below 40.
abbrev pub AreSmall : List ℕ → Type 0
AreSmall values = AllByRecursion (λ v. v < 40) values

-- Each value below 40 has a meaning in the basic set.
basic_some : (set : CodeSet) (v : ℕ) → v < 40 → basic_of set v ≢ None
basic_some C40 v lt e = grind (arith, nat_tests)
basic_some Text v lt e = grind (arith, nat_tests)
basic_some X12 v lt e = grind (arith, nat_tests)

-- This is dropped at the end of a run.
abbrev pub IsDropped : Extent → CodeSet → List ℕ → Type 0
IsDropped extent set values = IsFiller set values ⊎ ((extent ≡ Wide) × IsWaiting set values)

-- A rest of this kind stands behind the last whole spelling.
abbrev pub IsRestOf : CodeSet → List ℕ → Rest → Type 0
IsRestOf set values left.Complete = IsFiller set values
IsRestOf set values left.Waiting = IsWaiting set values
IsRestOf set values left.WrongUpperShift =
    BeginsShifted set values (Some shifted.Fnc1) 3 ⊎ BeginsShifted set values (Some shifted.UpperShift) 3
IsRestOf set values (left.Meaningless index) = BeginsShifted set values None index

-- The first n values spell this item.
abbrev Right : CodeSet → List ℕ → ℕ → Item → Type 0
Right set values n item = IsSpelling set (take n values) item × (0 < n) × (n ≤ length values)

-- What is found, or what is left, is right for values that begin in this way.
abbrev Judged : CodeSet → List ℕ → Step Item Rest → Type 0
Judged set values (Takes n item) = Right set values n item
Judged set values (Stops kind) = AreSmall values → IsRestOf set values kind

-- A shift and the value after it have this meaning.
shift_means : (set : CodeSet) (s v : ℕ) (shift : Shift) (meaning : Option Shifted) → basic_of set s
    ≡ Some (basic.Shift shift) → shifted_of set shift v ≡ meaning → IsShifted set (s ∷ v ∷ []) meaning
shift_means set s v shift meaning es ev = grind (arith, nat_tests)

-- What is found behind an Upper Shift and a shift is right.
judged_raised_shifted : (set : CodeSet) (s v t w : ℕ) (shift : Shift) (more : List ℕ) (k : Option Shifted)
    → IsShifted set (s ∷ v ∷ []) (Some shifted.UpperShift) → basic_of set t ≡ Some (basic.Shift shift)
    → shifted_of set shift w ≡ k → Judged set (s ∷ v ∷ t ∷ w ∷ more) (raised_shifted k)
judged_raised_shifted set s v t w shift more (Some (shifted.Character b)) u et ew = (
  raised (s ∷ v ∷ []) (t ∷ w ∷ []) b u (by_shift (shift_means set t w shift _ et ew)) refl refl,
  omega arith,
  omega arith,
)
judged_raised_shifted set s v t w shift more (Some shifted.Fnc1) u et ew =
    λ fit. inl (after_upper_shift (s ∷ v ∷ []) (t ∷ w ∷ []) more u (shift_means set t w shift _ et ew) refl refl)
judged_raised_shifted set s v t w shift more (Some shifted.UpperShift) u et ew =
    λ fit. inr (after_upper_shift (s ∷ v ∷ []) (t ∷ w ∷ []) more u (shift_means set t w shift _ et ew) refl refl)
judged_raised_shifted set s v t w shift more None u et ew =
    λ fit. after_upper_shift (s ∷ v ∷ []) (t ∷ w ∷ []) more u (shift_means set t w shift _ et ew) refl refl

-- What is found behind an Upper Shift is right.
judged_raised : (set : CodeSet) (s v t : ℕ) (more : List ℕ) (k : Option Basic)
    → IsShifted set (s ∷ v ∷ []) (Some shifted.UpperShift) → basic_of set t ≡ k
    → Judged set (s ∷ v ∷ t ∷ more) (raised_by set more k)
judged_raised set s v t more None u et = λ fit. absurd (basic_some set t fit.1.1.0 et)
judged_raised set s v t more (Some (basic.Character b)) u et =
    (raised (s ∷ v ∷ []) (t ∷ []) b u (plain t et refl) refl refl, omega arith, omega arith)
judged_raised set s v t [] (Some (basic.Shift shift)) u et =
    λ fit. record {
      upper = s ∷ v ∷ [];
      filler = t ∷ [];
      is_upper = u;
      ended = lone_shift t shift et refl;
      whole =
          refl;
    }
judged_raised set s v t (w ∷ more) (Some (basic.Shift shift)) u et =
    judged_raised_shifted set s v t w shift more (shifted_of set shift w) u et refl

-- What is found behind a shift is right.
judged_shifted : (set : CodeSet) (s v : ℕ) (shift : Shift) (more : List ℕ) (k : Option Shifted) → basic_of set s
    ≡ Some (basic.Shift shift) → shifted_of set shift v ≡ k → Judged set (s ∷ v ∷ more) (shifted_by set more k)
judged_shifted set s v shift more (Some (shifted.Character b)) es ev =
    (character b (by_shift (shift_means set s v shift _ es ev)) refl, omega arith, omega arith)
judged_shifted set s v shift more (Some shifted.Fnc1) es ev =
    (fnc1 (shift_means set s v shift _ es ev) refl, omega arith, omega arith)
judged_shifted set s v shift more None es ev =
    λ fit. at_once (s ∷ v ∷ []) more (shift_means set s v shift _ es ev) refl refl
judged_shifted set s v shift [] (Some shifted.UpperShift) es ev =
    λ fit. record {
      upper = s ∷ v ∷ [];
      filler = [];
      is_upper = shift_means set s v shift _ es ev;
      ended =
          nothing refl;
      whole = refl;
    }
judged_shifted set s v shift (t ∷ more) (Some shifted.UpperShift) es ev =
    judged_raised set s v t more (basic_of set t) (shift_means set s v shift _ es ev) refl

-- What is found by the meaning of the first value is right.
judged_spelling : (set : CodeSet) (s : ℕ) (more : List ℕ) (k : Option Basic) → basic_of set s ≡ k
    → Judged set (s ∷ more) (spelling_by set more k)
judged_spelling set s more None es = λ fit. absurd (basic_some set s fit.0 es)
judged_spelling set s more (Some (basic.Character b)) es =
    (character b (plain s es refl) refl, omega arith, omega arith)
judged_spelling set s [] (Some (basic.Shift shift)) es = λ fit. lone_shift s shift es refl
judged_spelling set s (v ∷ more) (Some (basic.Shift shift)) es =
    judged_shifted set s v shift more (shifted_of set shift v) es refl

-- Whatever is found is right.
judged : (set : CodeSet) (place : ℕ) (values : List ℕ) → Judged set values (first_spelling set place values)
judged set place values = grind (arith, nat_tests, nothing, judged_spelling, basic_of)

-- A spelling that is found is one.
pub item_sound : (set : CodeSet) → IsSound (first_spelling set) (ItemRight set) Anything
item_sound set = record {
  right = λ place values n item fit e. let P : Step Item Rest
      → Type 0 = λ s. Judged set values s in subst P e (judged set place values);
  fits = λ n values fit. tt;
}

-- A rest that is found is of its kind.
pub rest_sound : (set : CodeSet) (place : ℕ) (values : List ℕ) (kind : Rest) → AreSmall values
    → first_spelling set place values ≡ Stops kind → IsRestOf set values kind
rest_sound set place values kind fit e =
    (let P : Step Item Rest → Type 0 = λ s. Judged set values s in subst P e (judged set place values)) fit

-- ---- the other way

-- A character behind an Upper Shift is found.
raised_character : (set : CodeSet) (values after : List ℕ) (b : ℕ) → IsCharacter set values b
    → (first_raised set (values ++ after) ≡ Takes (2 + length values) (Byte (b + 128))) × (0 < length values)
raised_character set values after b h1 = grind (arith, nat_tests)

-- A character that is a prefix is found.
one_character : (set : CodeSet) (place : ℕ) (values after : List ℕ) (b : ℕ) → IsCharacter set values b
    → (first_spelling set place (values ++ after) ≡ Takes (length values) (Byte b)) × (0 < length values)
one_character set place values after b h1 = grind (arith, nat_tests)

-- A spelling that is a prefix is found.
pub item_complete : (set : CodeSet) → IsComplete (first_spelling set) (ItemRight set)
item_complete set place values after item (character b c i) = rw i (one_character set place values after b c)
item_complete set place values after item (fnc1 s i) = rw (s.whole, i) ((rw (s.is_shift, s.means) refl), omega arith)
item_complete set place values after item (raised upper more b u c w i) = grind (arith, nat_tests, raised_character)

-- An Upper Shift before something that is not a character is found.
wrong_complete : (set : CodeSet) (place : ℕ) (values upper pair more : List ℕ)
    → IsShifted set upper (Some shifted.UpperShift)
    → IsShifted set pair (Some shifted.Fnc1) ⊎ IsShifted set pair (Some shifted.UpperShift)
    → values ≡ upper ++ (pair ++ more)
    → first_spelling set place values ≡ Stops left.WrongUpperShift
wrong_complete set place values upper pair more h1 h2 h3 = grind (arith, nat_tests)

-- So it is found in both forms.
wrong_found : (set : CodeSet) (place : ℕ) (values : List ℕ) → IsRestOf set values left.WrongUpperShift
    → first_spelling set place values ≡ Stops left.WrongUpperShift
wrong_found set place values (inl (at_once two more t w i)) = absurd (omega (arith, i))
wrong_found set place values (inr (at_once two more t w i)) = absurd (omega (arith, i))
wrong_found set place values (inl (after_upper_shift upper two more u t w i)) =
    wrong_complete set place values upper two more u (inl t) w
wrong_found set place values (inr (after_upper_shift upper two more u t w i)) =
    wrong_complete set place values upper two more u (inr t) w

-- A rest of each kind is found.
pub rest_complete : (set : CodeSet) (place : ℕ) (values : List ℕ) (kind : Rest) → IsRestOf set values kind
    → first_spelling set place values ≡ Stops kind
rest_complete set place values left.Complete r = grind (arith, nat_tests, lone_shift)
rest_complete set place values left.Waiting r = grind (arith, nat_tests, lone_shift)
rest_complete set place values left.WrongUpperShift r = wrong_found set place values r
rest_complete set place values (left.Meaningless index) r = grind (arith, nat_tests, at_once, after_upper_shift)

-- ---- what can stand behind the last whole spelling has no whole spelling as a prefix

-- A rest has a kind.
kind_of : (set : CodeSet) (values : List ℕ) → IsRest set values → (kind : Rest) × IsRestOf set values kind
kind_of set values (complete r) = (left.Complete, r)
kind_of set values (waiting r) = (left.Waiting, r)
kind_of set values (meaningless index r) = (left.Meaningless index, r)
kind_of set values (wrong_upper_shift r) = (left.WrongUpperShift, r)

-- A rest of a kind is a rest.
rest_of : (set : CodeSet) (values : List ℕ) (kind : Rest) → IsRestOf set values kind → IsRest set values
rest_of set values left.Complete r = complete r
rest_of set values left.Waiting r = waiting r
rest_of set values left.WrongUpperShift r = wrong_upper_shift r
rest_of set values (left.Meaningless index) r = meaningless index r

-- No whole spelling is a prefix of a rest.
pub rest_begins_no_spelling : (set : CodeSet) (values : List ℕ) → IsRest set values → BeginsNoSpelling set values
rest_begins_no_spelling set values r prefix more item e s =
    grind (arith, nat_tests, kind_of, rest_complete, item_complete)

-- Whatever is found first, values with no whole spelling there are a rest.
no_spelling_by : (set : CodeSet) (values : List ℕ) (s : Step Item Rest) → first_spelling set 0 values ≡ s
    → AreSmall values → BeginsNoSpelling set values → IsRest set values
no_spelling_by set values (Takes n item) e fit none =
    absurd (none (take n values) (drop n values) item (sym (take-append-drop n values))
    ((item_sound set).right 0 values n item tt e).0)
no_spelling_by set values (Stops kind) e fit none = rest_of set values kind (rest_sound set 0 values kind fit e)

-- Values with no whole spelling as a prefix are a rest.
pub no_spelling_is_rest : (set : CodeSet) (values : List ℕ) → AreRunValues values → BeginsNoSpelling set values
    → IsRest set values
no_spelling_is_rest set values fit none =
    no_spelling_by set values (first_spelling set 0 values) refl (recursion_from_All (λ v. v < 40) values fit) none
