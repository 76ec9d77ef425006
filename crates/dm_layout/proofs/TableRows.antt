-- What holds for each row of the size table.
use Rattle.dm_layout.proofs.Names.{nat_tests, ◌≡◌, ℕ, ◌+◌, ◌*◌, ◌%◌, ◌<◌, ◌≤◌, Bool, true, false, nat_eq, nat_le}
use Rattle.dm_layout.proofs.Names.{Option, Some, None, refl, sym, arith, All, IfSome, IfNone, AllByRecursion, list_all}
use Rattle.dm_layout.proofs.Names.{list_any, eqb-true, leb-true, leb-false, le-leb, recursion_from_All}
use Rattle.dm_layout.proofs.Names.{All-from_recursion, AllPass-from_list_all, SizeRow, IsRow, row_with_side}
use Rattle.dm_layout.proofs.Names.{row_for_words, regions_across, block_length, largest_side, largest_mapping}
use Rattle.dm_layout.proofs.Names.{most_across, most_grid_codewords, most_grid_data, most_grid_blocks, longest_block}
use Rattle.dm_layout.proofs.Names.{IsGreatest}
use Rattle.dm_layout.proofs.symbols.Exported.{at_found, found_passes, greatest_of, Rises, found_first, rises_test}
use Rattle.dm_layout.proofs.symbols.Exported.{weaker_all, found_none, same_in_each}
use Rattle.dm_layout.specs.Sizes.{size_table, block_data, block_check, codeword_count, row_of}

-- The size that is found for a side has that side and stands in the table.
pub found_row : (side : ℕ) (s : SizeRow) → row_with_side side ≡ Some s → (s.side ≡ side) × IsRow s
found_row side s h = grind (arith, nat_tests, eqb-true, found_passes)

-- ---- what the checker computes for each row of the table

-- A test that each row of the table passes is passed by a size that stands in it.
pub passed_at_row : (test : SizeRow → Bool) (s : SizeRow) → list_all test size_table ≡ true → IsRow s → test s ≡ true
passed_at_row test s h row =
    at_found (λ r. test r ≡ true) (λ r. nat_eq r.side s.side) size_table s
    (recursion_from_All (λ r. test r ≡ true) size_table (AllPass-from_list_all test size_table h)) row

-- Two numbers that are the same in each row of the table are the same for a size that stands in it.
pub same_at_row : (x y : SizeRow → ℕ) (s : SizeRow) → IsRow s → list_all (λ r. nat_eq (x r) (y r)) size_table ≡ true →
    x s ≡ y s
same_at_row x y s row h = eqb-true _ _ (passed_at_row (λ r. nat_eq (x r) (y r)) s h row)

-- A number that is at most another one in each row of the table is so for a size that stands in it.
most_at_row : (x y : SizeRow → ℕ) (s : SizeRow) → IsRow s → list_all (λ r. nat_le (x r) (y r)) size_table ≡ true →
    x s ≤ y s
most_at_row x y s row h = leb-true _ _ (passed_at_row (λ r. nat_le (x r) (y r)) s h row)

-- The numbers of a size are related in these ways.
pub record RowFacts (s : SizeRow) : Type 0 where
  pub across : 1 ≤ regions_across s
  pub least : 8 ≤ s.region_side
  pub region_fits : s.region_side ≤ largest_side
  pub few_regions : s.regions ≤ most_across * most_across
  pub side : s.side ≡ regions_across s * (s.region_side + 2)
  pub mapping : s.mapping ≡ regions_across s * s.region_side
  pub mapping_least : 8 ≤ s.mapping
  pub mapping_even : s.mapping % 2 ≡ 0
  pub mapping_most : s.mapping ≤ largest_mapping
  pub fits : s.side ≤ largest_side
  pub blocks : 1 ≤ s.blocks
  pub few_blocks : s.blocks ≤ most_grid_blocks
  pub data_fits : s.data_count ≤ most_grid_data
  pub some_data : 1 ≤ block_data s
  pub codewords : codeword_count s ≤ most_grid_codewords
  pub dealt : s.blocks * block_length s ≡ codeword_count s
  pub data_dealt : s.blocks * block_data s ≡ s.data_count
  pub short : block_length s ≤ longest_block
  pub parts : block_data s + block_check s ≡ block_length s

-- Each row of the table has these relations between its numbers, as the checker computes, and so has each size.
pub row_facts : (s : SizeRow) → IsRow s → RowFacts s
unfolding size_table
row_facts s h = record {
  across = most_at_row (λ r. 1) regions_across s h refl;
  least = most_at_row (λ r. 8) (λ r. r.region_side) s h refl;
  region_fits = most_at_row (λ r. r.region_side) (λ r. largest_side) s h refl;
  few_regions = most_at_row (λ r. r.regions) (λ r. most_across * most_across) s h refl;
  side = same_at_row (λ r. r.side) (λ r. regions_across r * (r.region_side + 2)) s h refl;
  mapping = same_at_row (λ r. r.mapping) (λ r. regions_across r * r.region_side) s h refl;
  mapping_least = most_at_row (λ r. 8) (λ r. r.mapping) s h refl;
  mapping_even = same_at_row (λ r. r.mapping % 2) (λ r. 0) s h refl;
  mapping_most = most_at_row (λ r. r.mapping) (λ r. largest_mapping) s h refl;
  fits = most_at_row (λ r. r.side) (λ r. largest_side) s h refl;
  blocks = most_at_row (λ r. 1) (λ r. r.blocks) s h refl;
  few_blocks = most_at_row (λ r. r.blocks) (λ r. most_grid_blocks) s h refl;
  data_fits = most_at_row (λ r. r.data_count) (λ r. most_grid_data) s h refl;
  some_data = most_at_row (λ r. 1) block_data s h refl;
  codewords = most_at_row codeword_count (λ r. most_grid_codewords) s h refl;
  dealt = same_at_row (λ r. r.blocks * block_length r) codeword_count s h refl;
  data_dealt = same_at_row (λ r. r.blocks * block_data r) (λ r. r.data_count) s h refl;
  short = most_at_row block_length (λ r. longest_block) s h refl;
  parts = same_at_row (λ r. block_data r + block_check r) block_length s h refl;
}

-- A side that the table has is at most the largest side.
pub side_fits : (side : ℕ) (s : SizeRow) → row_with_side side ≡ Some s → side ≤ largest_side
side_fits side s h = let row = found_row side s h in omega (arith, row.0, (row_facts s row.1).fits)

-- ---- the smallest size that is large enough

-- The sides of the table rise.
table_rises : Rises (λ (r : SizeRow) (s : SizeRow). r.side ≤ s.side) size_table
unfolding size_table
table_rises = rises_test _ (λ r s. nat_le r.side s.side) (λ r s h. leb-true _ _ h) size_table refl

-- The size that `row_for_words` gives is the smallest with enough data codewords.
pub smallest_for_words : (count : ℕ) (o : Option SizeRow) → o ≡ row_for_words count →
    IfSome o (λ size. All (λ row. count ≤ row.data_count → size.side ≤ row.side) size_table)
smallest_for_words count None e = tt
smallest_for_words count (Some size) e =
    All-from_recursion (λ row. count ≤ row.data_count → size.side ≤ row.side) size_table
    (weaker_all (λ row. nat_le count row.data_count ≡ true → size.side ≤ row.side) _
    (λ row f l. f (le-leb count row.data_count l)) size_table
    (found_first (λ r s. r.side ≤ s.side) (λ r. omega arith) (λ row. nat_le count row.data_count) size_table size
    table_rises (sym e)))

-- The size that `row_for_words` gives has enough data codewords.
pub enough_for_words : (count : ℕ) (o : Option SizeRow) → o ≡ row_for_words count →
    IfSome o (λ size. count ≤ size.data_count)
enough_for_words count None e = tt
enough_for_words count (Some size) e =
    leb-true _ _ (found_passes (λ row. nat_le count row.data_count) size_table size (sym e))

-- Each row of the table is found by its side.
pub rows_found : AllByRecursion IsRow size_table
unfolding size_table
rows_found = same_in_each (λ row. row_with_side row.side) Some size_table refl

-- It stands in the table.
pub row_for_words_row : (count : ℕ) (o : Option SizeRow) → o ≡ row_for_words count → IfSome o IsRow
row_for_words_row count None e = tt
row_for_words_row count (Some size) e =
    at_found IsRow (λ row. nat_le count row.data_count) size_table size rows_found (sym e)

-- Where it gives none, no row has enough data codewords, not even the last.
pub none_for_words : (count : ℕ) (o : Option SizeRow) → o ≡ row_for_words count → IfNone o (most_grid_data < count)
unfolding size_table
none_for_words count (Some size) e = tt
none_for_words count None e =
    leb-false count most_grid_data (at_found (λ row. nat_le count row.data_count ≡ false)
    (λ row. nat_eq row.side largest_side) size_table (row_of 104 16 24 96 816 336 6 28)
    (found_none (λ row. nat_le count row.data_count) size_table (sym e)) refl)

-- ---- the greatest numbers of the columns

-- A number that some row has in a column, and that none exceeds, is the greatest of the column.
pub greatest : (column : SizeRow → ℕ) (number : ℕ) → list_any (λ row. nat_eq (column row) number) size_table ≡ true →
    list_all (λ row. nat_le (column row) number) size_table ≡ true → IsGreatest column number
greatest = greatest_of size_table
