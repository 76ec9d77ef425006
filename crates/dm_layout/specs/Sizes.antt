-- The square sizes of ECC 200, as one table: ISO/IEC 16022, symbol sizes and capacities.
use Rattle.std.specs.Prelude.{◌≡◌, ℕ, ◌*◌, ◌/◌, false, ◌&&◌, List, [], ◌∷◌, map, filter, nat_eq, nat_le, Option, Some}
use Rattle.std.specs.Prelude.{None, find, if◌then◌else◌}
use Rattle.dm_layout.specs.symbols.Sizes as symbols
use Rattle.dm_layout.specs.symbols.Sizes.{SizeEntry, entry_of}
pub use Rattle.dm_layout.specs.symbols.Sizes.{longest_block, most_block_check}

-- A size is a row of the table.
pub record SizeRow : Type 0 where
  -- The cells along a side of the whole symbol, with its borders.
  pub side : ℕ
  -- The number of data regions, which lie in a square.
  pub regions : ℕ
  -- The cells along a side of one data region, without its border.
  pub region_side : ℕ
  -- The cells along a side of the mapping square, which is the data regions put together without their borders.
  pub mapping : ℕ
  -- The number of data codewords of the symbol.
  pub data_count : ℕ
  -- The number of check codewords of the symbol.
  pub check_count : ℕ
  -- The number of Reed-Solomon blocks into which the codewords are dealt.
  pub blocks : ℕ
  -- The number of wrong codewords that can be corrected in a block.
  pub limit : ℕ

-- A row of the table is written as eight numbers, in the order of the columns above.
abbrev pub row_of : ℕ → ℕ → ℕ → ℕ → ℕ → ℕ → ℕ → ℕ → SizeRow
row_of side regions region_side mapping data_count check_count blocks limit =
    record {
      side = side;
      regions = regions;
      region_side = region_side;
      mapping = mapping;
      data_count = data_count;
      check_count = check_count;
      blocks = blocks;
      limit = limit;
    }

-- The table has the square sizes by rising side. That it ends with side 104, before the sides 120, 132 and 144, is a
-- choice of this project.
unfoldable pub size_table : List SizeRow
size_table =
    row_of 10 1 8 8 3 5 1 2
    ∷ row_of 12 1 10 10 5 7 1 3
    ∷ row_of 14 1 12 12 8 10 1 5
    ∷ row_of 16 1 14 14 12 12 1 6
    ∷ row_of 18 1 16 16 18 14 1 7
    ∷ row_of 20 1 18 18 22 18 1 9
    ∷ row_of 22 1 20 20 30 20 1 10
    ∷ row_of 24 1 22 22 36 24 1 12
    ∷ row_of 26 1 24 24 44 28 1 14
    ∷ row_of 32 4 14 28 62 36 1 18
    ∷ row_of 36 4 16 32 86 42 1 21
    ∷ row_of 40 4 18 36 114 48 1 24
    ∷ row_of 44 4 20 40 144 56 1 28
    ∷ row_of 48 4 22 44 174 68 1 34
    ∷ row_of 52 4 24 48 204 84 2 21
    ∷ row_of 64 16 14 56 280 112 2 28
    ∷ row_of 72 16 16 64 368 144 4 18
    ∷ row_of 80 16 18 72 456 192 4 24
    ∷ row_of 88 16 20 80 576 224 4 28
    ∷ row_of 96 16 22 88 696 272 4 34
    ∷ row_of 104 16 24 96 816 336 6 28
    ∷ []

-- The largest symbol of the table has this side.
abbrev pub largest_side : ℕ
largest_side = 104

-- The largest mapping square of the table has this side.
abbrev pub largest_mapping : ℕ
largest_mapping = 96

-- No symbol of the table has more data regions side by side than this.
abbrev pub most_across : ℕ
most_across = 4

-- No symbol of the table has more data codewords than this.
abbrev pub most_grid_data : ℕ
most_grid_data = 816

-- No symbol of the table has more codewords than this, data and check codewords together.
abbrev pub most_grid_codewords : ℕ
most_grid_codewords = 1152

-- No symbol of the table has more blocks than this.
abbrev pub most_grid_blocks : ℕ
most_grid_blocks = 6

-- The size with a given side is the row of the table that has it, if there is one.
abbrev pub row_with_side : ℕ → Option SizeRow
row_with_side side = find (λ row. nat_eq row.side side) size_table

-- The size for `count` data codewords is the first row of the table with at least as many, if there is one; since the
-- table rises, it is the smallest.
abbrev pub row_for_words : ℕ → Option SizeRow
row_for_words count = find (λ row. nat_le count row.data_count) size_table

-- The row stands in the table.
abbrev pub IsRow : SizeRow → Type 0
IsRow row = row_with_side row.side ≡ Some row

-- ---- squares among all symbols

-- This many data regions stand side by side, and as many one above the other.
abbrev pub regions_across : SizeRow → ℕ
regions_across row = row.mapping / row.region_side

-- A row of the table stands for this size of a symbol, with as many columns as rows. What is said of a row, and of
-- grids and codewords of its size, is said of this size in `symbols/`.
abbrev pub symbol_size : SizeRow → SizeEntry
symbol_size row =
    entry_of row.side row.side row.region_side row.region_side (regions_across row) (regions_across row) row.data_count
    row.check_count row.blocks false

-- A symbol of this size has this many codewords, data and check codewords together.
abbrev pub codeword_count : SizeRow → ℕ
codeword_count row = symbols.codeword_count (symbol_size row)

-- Each block of this size has this many check codewords.
abbrev pub block_check : SizeRow → ℕ
block_check row = symbols.block_check (symbol_size row)

-- Each block of this size has this many data codewords, since the blocks of a square of the table are all of one
-- length.
abbrev pub block_data : SizeRow → ℕ
block_data row = row.data_count / row.blocks

-- Each block of this size has this many codewords.
abbrev pub block_length : SizeRow → ℕ
block_length row = codeword_count row / row.blocks

-- The row that stands for a square of the table of all symbols.
abbrev pub row_of_entry : SizeEntry → SizeRow
row_of_entry size =
    row_of size.rows (size.regions_down * size.regions_across) size.region_rows (symbols.mapping_rows size)
    size.data_count size.check_count size.blocks (symbols.limit size)

-- A symbol's size is that of a square of the table if it is square and its side is at most the largest.
abbrev pub row_of_symbol : SizeEntry → Option SizeRow
row_of_symbol size =
    if symbols.is_square size && nat_le size.rows largest_side then Some (row_of_entry size) else None

-- ---- laws

-- The number is the greatest of a column of the table.
abbrev pub IsGreatest : (SizeRow → ℕ) → ℕ → Type 0
IsGreatest = symbols.IsGreatestOf size_table

-- The table has the squares of the table of all symbols whose sides are at most the largest, in the same order.
abbrev pub TableIsOfSquares : Type 0
TableIsOfSquares =
    size_table ≡
    map row_of_entry (filter (λ size. symbols.is_square size && nat_le size.rows largest_side) symbols.size_table)
