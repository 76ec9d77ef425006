-- Normal grids are the grids of normal symbols, and what follows for normalising.
use Rattle.dm_symbol.proofs.Names.{◌≡◌, ◌⊎◌, ◌↔◌, ℕ, zero, suc, List, ◌∷◌, length, map, replicate, Option, Some, None}
use Rattle.dm_symbol.proofs.Names.{IsSome, Result, Ok, Err, IsErr, ◌<◌, inl, inr, refl, sym, ap, subst, ◌∙◌, arith}
use Rattle.dm_symbol.proofs.Names.{false≢true, Usual, Item, TooLong, Profile, as_content, content_form, IsMessage}
use Rattle.dm_symbol.proofs.Names.{padded, identifier_is_there, said_wide, normal_form, Square, SizeEntry, block_check}
use Rattle.dm_symbol.proofs.Names.{SymbolView, IsSymbol, SizeRow, row_for_words, symbol_size, most_grid_data, row_facts}
use Rattle.dm_symbol.proofs.Names.{GridView, IsGrid, symbol_modules, Reading, ReadFault, BlockReading, IsNormalGrid}
use Rattle.dm_symbol.proofs.Names.{IsNormalOfContent, Reads, ReadResult, reading_of, IsNormalOrFault, nothing_wrong}
use Rattle.dm_symbol.specs.NormalGrid.{FitsSomeSize, IsWritten}
use Rattle.dm_symbol.specs.declared.normalising.NormalFault.{NormalFault}
use Rattle.dm_symbol.specs.declared.normalising.NormalFault.TheVariants as fault
use Rattle.dm_symbol.specs.Normal.{HasNormal, HasNoNormal, NormalResult, IsNormalised}
use Rattle.dm_symbol.proofs.Grids.{no_fault, one_given, one_message, read_is_message, read_result_is_there, items_are}
use Rattle.dm_symbol.proofs.Grids.{reads_by_result, same_grid}
use Rattle.dm_symbol.proofs.NormalOutcomes.{AreApart, one_normalised, is_normal_given}
use Rattle.dm_symbol.proofs.SquareSizes.{row_for_these, row_holds, same_smallest, some_smallest}
use Rattle.dm_symbol.proofs.PlainSymbols.{message_is_content}
use Rattle.dm_symbol.proofs.WrittenContents.{clean_reading, form_says, written_content_is_read}
use Rattle.dm_symbol.proofs.WrittenContents.{written_content_is_there, written_contents_tell, written_reads_content}
use Rattle.dm_symbol.proofs.WrittenWords.{some_is, words_written_once}

-- ---- normal grids

-- Normal grids of one message are equal.
pub normal_grid_is_one : (p : Profile) (m : List Item) (g h : GridView) → IsNormalGrid p m g → IsNormalGrid p m h
    → g ≡ h
normal_grid_is_one p m g h n o =
    same_grid g h n.is_grid o.is_grid
    (words_written_once Square (normal_form p m) (symbol_modules g) (symbol_modules h) n.normal o.normal)

-- Normal grids are equal exactly where their messages are.
pub normal_grids_tell : (p : Profile) (m n : List Item) (g h : GridView) → IsMessage m → IsMessage n
    → IsNormalGrid p m g → IsNormalGrid p n h → (g ≡ h) ↔ (m ≡ n)
normal_grids_tell p m n g h hm hn ng nh = (
  λ e. items_are m n (written_contents_tell Square Square p p (as_content m) (as_content n) (symbol_modules h)
      (message_is_content m hm) (message_is_content n hn) (subst (λ x. IsNormalGrid p m x) e ng).normal nh.normal),
  λ e. normal_grid_is_one p n g h (subst (λ x. IsNormalGrid p x g) e ng) nh,
)

-- A message with a normal grid fits some size.
pub normal_grid_fits : (p : Profile) (m : List Item) (g : GridView) → IsNormalGrid p m g → FitsSomeSize p m
normal_grid_fits p m g n = some_smallest (length (normal_form p m)) g.size n.is_grid.row n.normal.smallest

-- Something is there, or nothing is.
pub fits_or_not : {A : Type 0} (o : Option A) → IsSome o ⊎ (IsSome o → ⊥)
fits_or_not (Some a) = inl refl
fits_or_not None = inr (λ is. false≢true is)

-- A message whose normal form is longer than the largest size holds fits no size.
pub too_long_fits_none : (p : Profile) (m : List Item) → most_grid_data < length (normal_form p m) → FitsSomeSize p m
    → ⊥
too_long_fits_none p m long fits = by (row_for_words (length (normal_form p m))) refl fits
  where
    by : (o : Option SizeRow) → row_for_words (length (normal_form p m)) ≡ o → IsSome o → ⊥
    by None e is = false≢true is
    by (Some s) e is =
        let few = (row_facts s (row_for_these (length (normal_form p m)) s e)).data_fits in
        absurd (omega (arith, long, row_holds (length (normal_form p m)) s e, few))

-- A normal symbol of a size of the table of squares is that of a grid.
pub grid_of_normal : (p : Profile) (m : List Item) (size : SizeRow) (modules : SymbolView)
    → row_for_words (length (normal_form p m)) ≡ Some size → IsNormalOfContent p (as_content m) modules
    → (grid : GridView) × IsNormalGrid p m grid
grid_of_normal p m size modules e n =
    let count = length (normal_form p m) in
    let same : symbol_size size ≡ modules.size = some_is _ _ (sym (same_smallest count size e) ∙ n.smallest) in
    let grid : GridView = record { size = size; rows = modules.rows } in
    let whole : modules ≡ symbol_modules grid =
    ap (λ (s : SizeEntry). let x : SymbolView = record { size = s; rows = modules.rows } in x) (sym same) in
    let is : IsSymbol (symbol_modules grid) = subst IsSymbol whole n.laid.holds.symbol in (
      grid,
      record {
        is_grid = record { row = row_for_these count size e; height = is.height; width = is.width };
        normal = subst (IsNormalOfContent p (as_content m)) whole n;
      },
    )

-- A message that fits some size has a normal grid.
pub normal_grid_is_there : (p : Profile) (m : List Item) → IsMessage m → FitsSomeSize p m
    → (grid : GridView) × IsNormalGrid p m grid
normal_grid_is_there p m h fits = of_size (row_for_words (length (normal_form p m))) refl fits
  where
    of_size : (o : Option SizeRow) → row_for_words (length (normal_form p m)) ≡ o → IsSome o
        → (grid : GridView) × IsNormalGrid p m grid
    of_size None e is = absurd (false≢true is)
    of_size (Some size) e is =
        let fit = subst IsSome (sym (same_smallest (length (normal_form p m)) size e)) refl in
        let written = written_content_is_there Square p (as_content m) (message_is_content m h) fit in
        grid_of_normal p m size written.0 e written.1

-- The normal grid is a right result of writing.
pub is_written : (p : Profile) (m : List Item) (grid : GridView) → IsNormalGrid p m grid → IsWritten p m (Ok grid)
is_written p m grid n = record {
  normal = n;
  one = λ other o. normal_grid_is_one p m other grid o n;
  fits = (λ is. normal_grid_fits p m grid n, λ fits. refl);
  none = tt;
}

-- That there is none is the right result for a message that fits no size.
pub none_is_written : (p : Profile) (m : List Item) (result : Result GridView TooLong) → IsErr result
    → (FitsSomeSize p m → ⊥) → IsWritten p m result
none_is_written p m (Ok grid) is none = absurd (false≢true is)
none_is_written p m (Err e) is none = record {
  normal = tt;
  one = tt;
  fits = (λ h. absurd (false≢true h), λ fits. absurd (none fits));
  none = λ grid n. none (normal_grid_fits p m grid n);
}

-- ---- normal grids are read

-- A normal grid is read as its message for every limit.
pub normal_reads : (p : Profile) (m : List Item) (grid : GridView) (limit : ℕ) → IsMessage m
    → IsNormalGrid p m grid → Reads grid limit m
normal_reads p m grid limit h n = record {
  is_grid = n.is_grid;
  read = written_reads_content Square p (as_content m) (symbol_modules grid) n.normal (message_is_content m h) Usual
      limit
      refl;
}

-- Of blocks in which nothing is wrong it is told that nothing is corrected.
none_corrected : (k n : ℕ) → replicate n 0 ≡ map (λ (b : BlockReading). b.corrected) (replicate n (nothing_wrong k))
none_corrected k zero = refl
none_corrected k (suc n) = ap (λ xs. 0 ∷ xs) (none_corrected k n)

-- A normal grid has one result: nothing is corrected in it.
pub normal_is_read : (p : Profile) (m : List Item) (grid : GridView) (limit : ℕ)
    (result : Result Reading ReadFault) → IsMessage m → IsNormalGrid p m grid
    → ReadResult grid limit result ↔ (result ≡ Ok (reading_of m (replicate grid.size.blocks 0) 0))
normal_is_read p m grid limit result h n =
    let l = as_content m in
    let g = symbol_modules grid in
    let is = message_is_content m h in
    let form = padded (content_form p l) g.size.data_count in
    let says = form_says Square p l g n.normal is Usual refl in
    let number = identifier_is_there form l (said_wide Usual form l says) in
    let right : ReadResult grid limit (Ok (reading_of m (replicate grid.size.blocks 0) 0)) = record {
      is_grid = n.is_grid;
      of_symbol = clean_reading Square p l g n.normal is number.0;
      read = (written_content_is_read Square p l g n.normal is number.0 number.1 Usual limit
          (clean_reading Square p l g n.normal is number.0) refl).1 refl;
      same = ap (λ xs. Ok (reading_of m xs 0))
          (none_corrected (block_check (symbol_size grid.size)) grid.size.blocks);
    } in (
      λ a. one_given grid limit _ _ a right,
      λ e. subst (λ a. ReadResult grid limit a) (sym e) right,
    )

-- ---- normalising

module _ (p : Profile) (grid : GridView) (limit : ℕ) where
  -- This has the grid as its normal grid.
  abbrev has : GridView → Type 0
  has = HasNormal p grid limit

  -- It has none.
  abbrev has_none : Type 0
  has_none = HasNoNormal p grid limit

  -- It is refused when it is read.
  abbrev refused : ReadFault → Type 0
  refused why = ReadResult grid limit (Err why)

  -- A grid that is read as a message has no other.
  one_read : (m n : List Item) → Reads grid limit m → Reads grid limit n → m ≡ n
  one_read m n a b = one_message grid limit limit m n a b

  -- A grid has one normal grid, or none, or is refused when it is read.
  apart : AreApart fault.Read fault.TooLong has has_none refused
  apart = record {
    same_read = λ why other e. cc;
    read_no_long = λ why e. cc;
    one = λ n o hn ho. normal_grid_is_one p ho.message n o
        (subst (λ m. IsNormalGrid p m n) (one_read hn.message ho.message hn.read ho.read) hn.normal_grid)
        ho.normal_grid;
    some_or_none = λ n h none. none.too_long (subst (FitsSomeSize p)
        (one_read h.message none.message h.read none.read) (normal_grid_fits p h.message n h.normal_grid));
    has_or_refused = λ n why h a. no_fault grid limit h.message why h.read a;
    none_or_refused = λ why h a. no_fault grid limit h.message why h.read a;
    one_refused = λ why other a b. let e = one_given grid limit (Err why) (Err other) a b in cc;
  }

  -- A grid has at most one result of normalising.
  pub one_normal_result : (a b : Result GridView NormalFault) → NormalResult p grid limit a
      → NormalResult p grid limit b → a ≡ b
  one_normal_result a b = one_normalised fault.Read fault.TooLong has has_none refused apart a b

  -- The result defined for a grid is what normalising it gives.
  pub is_normalised : (result : Result GridView NormalFault) → NormalResult p grid limit result
      → IsNormalised p grid limit result
  is_normalised result a = is_normal_given fault.Read fault.TooLong has has_none refused apart result a

  -- A grid that is read has a result of normalising.
  normal_of_read : (m : List Item) → Reads grid limit m
      → (result : Result GridView NormalFault) × NormalResult p grid limit result
  normal_of_read m r =
      elim (fits_or_not (row_for_words (length (normal_form p m)))) [
        | inl fits ↦
            let normal = normal_grid_is_there p m (read_is_message grid limit m r) fits in
            let h : has normal.0 = record { message = m; read = r; normal_grid = normal.1 } in
            (Ok normal.0, IsNormalOrFault.normal normal.0 h refl)
        | inr none ↦
            (Err fault.TooLong, IsNormalOrFault.too_long (record { message = m; read = r; too_long = none }) refl)
      ]

  -- Each grid has a result of normalising.
  pub normal_result_is_there : IsGrid grid
      → (result : Result GridView NormalFault) × NormalResult p grid limit result
  normal_result_is_there g =
      let some = read_result_is_there grid limit g in
      by some.0 some.1
    where
      by : (r : Result Reading ReadFault) → ReadResult grid limit r
          → (result : Result GridView NormalFault) × NormalResult p grid limit result
      by (Ok reading) a = normal_of_read reading.message (reads_by_result grid limit reading a)
      by (Err why) a = (Err (fault.Read why), IsNormalOrFault.fault why a refl)

-- Two grids that are read as the same message have the same results of normalising.
result_moves : (p : Profile) (g h : GridView) (k l : ℕ) (m : List Item)
    (result : Result GridView NormalFault) → Reads g k m → Reads h l m
    → NormalResult p g k result → NormalResult p h l result
result_moves p g h k l m result rg rh (IsNormalOrFault.normal n a e) =
    let same = one_message g k k a.message m a.read rg in
    IsNormalOrFault.normal n
    (record { message = m; read = rh; normal_grid = subst (λ x. IsNormalGrid p x n) same a.normal_grid }) e
result_moves p g h k l m result rg rh (IsNormalOrFault.too_long a e) =
    let same = one_message g k k a.message m a.read rg in
    IsNormalOrFault.too_long
    (record { message = m; read = rh; too_long = subst (λ x. FitsSomeSize p x → ⊥) same a.too_long }) e
result_moves p g h k l m result rg rh (IsNormalOrFault.fault why a e) =
    absurd (no_fault g k m why rg a)

-- The last of two profiles decides.
pub last_profile_decides : (p q : Profile) (grid normal : GridView) (limit other : ℕ)
    (result : Result GridView NormalFault) → HasNormal p grid limit normal
    → NormalResult q normal other result ↔ NormalResult q grid limit result
last_profile_decides p q grid normal limit other result h =
    let reads = normal_reads p h.message normal other (read_is_message grid limit h.message h.read)
    h.normal_grid in (
      result_moves q normal grid other limit h.message result reads h.read,
      result_moves q grid normal limit other h.message result h.read reads,
    )

-- The result of normalising for a normal grid is the grid itself.
pub twice_is_once : (p : Profile) (grid normal : GridView) (limit other : ℕ)
    (result : Result GridView NormalFault) → HasNormal p grid limit normal
    → NormalResult p normal other result ↔ (result ≡ Ok normal)
twice_is_once p grid normal limit other result h =
    let once : NormalResult p grid limit (Ok normal) = IsNormalOrFault.normal normal h refl in
    let decides = last_profile_decides p p grid normal limit other in (
      λ a. one_normal_result p grid limit result (Ok normal) ((decides result h).0 a) once,
      λ e. (decides result h).1 (subst (NormalResult p grid limit) (sym e) once),
    )

-- Two grids that are read have equal normal grids exactly where their messages are equal.
pub equal_normals : (p : Profile) (g h a b : GridView) (i j k l : ℕ) (m n : List Item)
    → Reads g i m → Reads h j n
    → HasNormal p g k a → HasNormal p h l b → (a ≡ b) ↔ (m ≡ n)
equal_normals p g h a b i j k l m n hm hn ha hb =
    let na : IsNormalGrid p m a =
    subst (λ x. IsNormalGrid p x a) (one_message g k i ha.message m ha.read hm) ha.normal_grid in
    let nb : IsNormalGrid p n b =
    subst (λ x. IsNormalGrid p x b) (one_message h l j hb.message n hb.read hn) hb.normal_grid in
    normal_grids_tell p m n a b (read_is_message g i m hm) (read_is_message h j n hn) na nb
