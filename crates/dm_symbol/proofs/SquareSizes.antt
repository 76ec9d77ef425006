-- The squares of the table among the sizes of all symbols.
use Rattle.dm_symbol.proofs.Names.{◌≡◌, ℕ, ◌/◌, ◌≤◌, Bool, true, false, cond, ◌&&◌, nat_eq, nat_le, List, [], ◌∷◌, ◌++◌}
use Rattle.dm_symbol.proofs.Names.{map, Option, Some, None, IsSome, refl, sym, ap, ◌∙◌, arith, find, AllByRecursion}
use Rattle.dm_symbol.proofs.Names.{false≢true, Extent, Square, SizeEntry, entry_for, entry_of, SizeRow, IsRow}
use Rattle.dm_symbol.proofs.Names.{row_for_words, row_with_side, symbol_size, row_facts, at_found}
use Rattle.std.proofs.lemmas.Bool.{leb-true, le-leb}
use Rattle.dm_layout.specs.symbols.Sizes.{is_square}
use Rattle.dm_layout.specs.Sizes.{size_table, block_check}
use Rattle.dm_layout.proofs.Exported.{found_row}
use Rattle.dm_layout.proofs.symbols.Exported.{found_passes}
use Rattle.dm_words.specs.Messages.{most_spelled}
use Rattle.dm_words.proofs.Exported.{room_for_spelled}
use Rattle.dm_layout.specs.symbols.Sizes as symbols
use Rattle.dm_symbol.proofs.SymbolWriteSteps.{chosen_holds}

-- The size for a side stands in the table and has that side.
pub has_that_side : (side : ℕ) (s : SizeRow) → row_with_side side ≡ Some s → IsRow s × (s.side ≡ side)
has_that_side side s h = let here = found_row side s h in (here.1, here.0)

-- What the checker finds to be the same in each row of a table is so in each.
same_in_each : {Y : Type 0} (f g : SizeRow → Y) (rows : List SizeRow) → map f rows ≡ map g rows
    → AllByRecursion (λ r. f r ≡ g r) rows
same_in_each f g [] e = tt
same_in_each f g (r ∷ rows) e =
    let here : f r ≡ g r = cc in
    let later : map f rows ≡ map g rows = cc in
    (here, same_in_each f g rows later)

-- Each row of the table is found by its side: this is computed.
rows_are_rows : AllByRecursion IsRow size_table
unfolding size_table
rows_are_rows = same_in_each (λ r. row_with_side r.side) (λ r. Some r) size_table refl

-- The size for a number of codewords stands in the table.
pub row_for_these : (count : ℕ) (s : SizeRow) → row_for_words count ≡ Some s → IsRow s
row_for_these count s e = at_found IsRow (λ r. nat_le count r.data_count) size_table s rows_are_rows e

-- It holds these.
pub row_holds : (count : ℕ) (s : SizeRow) → row_for_words count ≡ Some s → count ≤ s.data_count
row_holds count s e = leb-true count s.data_count (found_passes (λ r. nat_le count r.data_count) size_table s e)

-- In each row, half of a block's check codewords are the limit: this is computed.
halves : AllByRecursion (λ r. r.limit ≡ block_check r / 2) size_table
unfolding size_table
halves = same_in_each (λ r. r.limit) (λ r. block_check r / 2) size_table refl

pub half : (s : SizeRow) → IsRow s → s.limit ≡ block_check s / 2
half s row = at_found (λ r. r.limit ≡ block_check r / 2) (λ r. nat_eq r.side s.side) size_table s halves row

-- A message has room for what a grid says.
pub room_for_grid : (extent : Extent) (s : SizeRow) → IsRow s → most_spelled extent s.data_count ≤ 1639
room_for_grid extent s h = room_for_spelled 1639 extent s.data_count (omega (arith, (row_facts s h).data_fits))

-- ---- the smallest square

-- The squares that the table of all sizes has behind those of the table of squares.
larger : List SizeEntry
larger =
    entry_of 120 120 18 18 6 6 1050 408 6 false
    ∷ entry_of 132 132 20 20 6 6 1304 496 8 false
    ∷ entry_of 144 144 22 22 6 6 1558 620 10 false
    ∷ []

-- The first square that passes a test of its data codewords is the first of these.
first_square : (p : ℕ → Bool) → find (λ e. is_square e && p e.data_count) symbols.size_table
    ≡ find (λ e. p e.data_count) (map symbol_size size_table ++ larger)
unfolding size_table symbols.size_table larger
first_square p = refl

-- What is found in a list is found where its squares stand in front.
found_in_front : (p : ℕ → Bool) (rows : List SizeRow) (rest : List SizeEntry) (row : SizeRow)
    → find (λ r. p r.data_count) rows ≡ Some row
    → find (λ e. p e.data_count) (map symbol_size rows ++ rest) ≡ Some (symbol_size row)
found_in_front p [] rest row e = cc
found_in_front p (r ∷ rows) rest row e = by_test (found_in_front p rows rest row) (p r.data_count) e
  where
    symbol_of : Option SizeRow → Option SizeEntry
    symbol_of None = None
    symbol_of (Some q) = Some (symbol_size q)

    by_test : (find (λ q. p q.data_count) rows ≡ Some row
        → find (λ q. p q.data_count) (map symbol_size rows ++ rest) ≡ Some (symbol_size row)) → (b : Bool)
        → cond b (Some r) (find (λ q. p q.data_count) rows) ≡ Some row
        → cond b (Some (symbol_size r)) (find (λ q. p q.data_count) (map symbol_size rows ++ rest))
        ≡ Some (symbol_size row)
    by_test behind true f = ap symbol_of f
    by_test behind false f = behind f

-- The smallest size of the table of squares is the smallest square.
pub same_smallest : (count : ℕ) (row : SizeRow) → row_for_words count ≡ Some row
    → entry_for Square count ≡ Some (symbol_size row)
same_smallest count row e = first_square (nat_le count) ∙ found_in_front (nat_le count) size_table larger row e

-- Where something is found that passes a second test, something is found that passes this.
found_too : (p q : SizeRow → Bool) (rows : List SizeRow) (row : SizeRow) → find p rows ≡ Some row → q row ≡ true
    → IsSome (find q rows)
found_too p q [] row e h = cc
found_too p q (r ∷ rows) row e h = by_test (λ f. found_too p q rows row f h) (p r) (q r) refl e
  where
    by_test : (find p rows ≡ Some row → IsSome (find q rows)) → (a b : Bool) → q r ≡ b
        → cond a (Some r) (find p rows) ≡ Some row → IsSome (cond b (Some r) (find q rows))
    by_test later a true told f = refl
    by_test later true false told f =
        let same : r ≡ row = cc in absurd (false≢true (sym told ∙ ap q same ∙ h))
    by_test later false false told f = later f

-- Where a square of the table is the smallest for a number of codewords, the table has a size for these.
pub some_smallest : (count : ℕ) (row : SizeRow) → IsRow row → entry_for Square count ≡ Some (symbol_size row)
    → IsSome (row_for_words count)
some_smallest count row is e =
    found_too (λ r. nat_eq r.side row.side) (λ r. nat_le count r.data_count) size_table row is
    (le-leb count row.data_count (chosen_holds Square count (symbol_size row) e))
