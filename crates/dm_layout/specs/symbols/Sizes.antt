-- The sizes of ECC 200 symbols, as one table: ISO/IEC 16022, symbol sizes and capacities, and ISO/IEC 21471, whose
-- rectangles extend it.
use Rattle.std.specs.Prelude.{◌≡◌, ℕ, ◌+◌, ◌-◌, ◌*◌, ◌/◌, ◌≤◌, Bool, true, false, not, ◌&&◌, List, [], ◌∷◌, nat_eq}
use Rattle.std.specs.Prelude.{nat_le, Option, Some, find, All, Any}
use Rattle.dm_place.specs.Sides.{SidesRow, sides_of, sides_table, row_with_sides}
use Rattle.dm_layout.specs.declared.symbols.size.SizeChoice.{SizeChoice}
use Rattle.dm_layout.specs.declared.symbols.size.SizeChoice.TheVariants.{Square, Rectangle, AnyRectangle}
use Rattle.dm_layout.specs.declared.symbols.size.SizeChoice.TheVariants.{Any as AnySize}
use Rattle.dm_layout.specs.declared.symbols.size.SizeChoice.TheVariants.{Exact}

-- A size is an entry of the table.
pub record SizeEntry : Type 0 where
  -- The rows of modules of the whole symbol, those of borders among them.
  pub rows : ℕ
  -- The columns of modules of the whole symbol.
  pub columns : ℕ
  -- The rows of one data region, without its border.
  pub region_rows : ℕ
  -- The columns of one data region, without its border.
  pub region_columns : ℕ
  -- The number of data regions that stand one above the other.
  pub regions_down : ℕ
  -- The number of data regions that stand side by side.
  pub regions_across : ℕ
  -- The number of data codewords of the symbol.
  pub data_count : ℕ
  -- The number of check codewords of the symbol.
  pub check_count : ℕ
  -- The number of Reed-Solomon blocks into which the codewords are dealt.
  pub blocks : ℕ
  -- Whether the size is one of the extension.
  pub extended : Bool

-- An entry of the table is written in the order of the columns above.
abbrev pub entry_of : ℕ → ℕ → ℕ → ℕ → ℕ → ℕ → ℕ → ℕ → ℕ → Bool → SizeEntry
entry_of rows columns region_rows region_columns regions_down regions_across data_count check_count blocks extended =
    record {
      rows = rows;
      columns = columns;
      region_rows = region_rows;
      region_columns = region_columns;
      regions_down = regions_down;
      regions_across = regions_across;
      data_count = data_count;
      check_count = check_count;
      blocks = blocks;
      extended = extended;
    }

-- The table has the 24 squares and the 6 rectangles of ISO/IEC 16022 and the 18 rectangles of the extension, by rising
-- area and, where areas are equal, by rising columns.
unfoldable pub size_table : List SizeEntry
size_table =
    entry_of 10 10 8 8 1 1 3 5 1 false
    ∷ entry_of 12 12 10 10 1 1 5 7 1 false
    ∷ entry_of 8 18 6 16 1 1 5 7 1 false
    ∷ entry_of 14 14 12 12 1 1 8 10 1 false
    ∷ entry_of 16 16 14 14 1 1 12 12 1 false
    ∷ entry_of 8 32 6 14 1 2 10 11 1 false
    ∷ entry_of 12 26 10 24 1 1 16 14 1 false
    ∷ entry_of 18 18 16 16 1 1 18 14 1 false
    ∷ entry_of 8 48 6 22 1 2 18 15 1 true
    ∷ entry_of 20 20 18 18 1 1 22 18 1 false
    ∷ entry_of 12 36 10 16 1 2 22 18 1 false
    ∷ entry_of 22 22 20 20 1 1 30 20 1 false
    ∷ entry_of 8 64 6 14 1 4 24 18 1 true
    ∷ entry_of 24 24 22 22 1 1 36 24 1 false
    ∷ entry_of 16 36 14 16 1 2 32 24 1 false
    ∷ entry_of 8 80 6 18 1 4 32 22 1 true
    ∷ entry_of 26 26 24 24 1 1 44 28 1 false
    ∷ entry_of 20 36 18 16 1 2 44 28 1 true
    ∷ entry_of 16 48 14 22 1 2 49 28 1 false
    ∷ entry_of 12 64 10 14 1 4 43 27 1 true
    ∷ entry_of 8 96 6 22 1 4 38 28 1 true
    ∷ entry_of 20 44 18 20 1 2 56 34 1 true
    ∷ entry_of 8 120 6 18 1 6 49 32 1 true
    ∷ entry_of 32 32 14 14 2 2 62 36 1 false
    ∷ entry_of 16 64 14 14 1 4 62 36 1 true
    ∷ entry_of 26 40 24 18 1 2 70 38 1 true
    ∷ entry_of 22 48 20 22 1 2 72 38 1 true
    ∷ entry_of 12 88 10 20 1 4 64 36 1 true
    ∷ entry_of 24 48 22 22 1 2 80 41 1 true
    ∷ entry_of 8 144 6 22 1 6 63 36 1 true
    ∷ entry_of 26 48 24 22 1 2 90 42 1 true
    ∷ entry_of 20 64 18 14 1 4 84 42 1 true
    ∷ entry_of 36 36 16 16 2 2 86 42 1 false
    ∷ entry_of 24 64 22 14 1 4 108 46 1 true
    ∷ entry_of 40 40 18 18 2 2 114 48 1 false
    ∷ entry_of 26 64 24 14 1 4 118 50 1 true
    ∷ entry_of 44 44 20 20 2 2 144 56 1 false
    ∷ entry_of 48 48 22 22 2 2 174 68 1 false
    ∷ entry_of 52 52 24 24 2 2 204 84 2 false
    ∷ entry_of 64 64 14 14 4 4 280 112 2 false
    ∷ entry_of 72 72 16 16 4 4 368 144 4 false
    ∷ entry_of 80 80 18 18 4 4 456 192 4 false
    ∷ entry_of 88 88 20 20 4 4 576 224 4 false
    ∷ entry_of 96 96 22 22 4 4 696 272 4 false
    ∷ entry_of 104 104 24 24 4 4 816 336 6 false
    ∷ entry_of 120 120 18 18 6 6 1050 408 6 false
    ∷ entry_of 132 132 20 20 6 6 1304 496 8 false
    ∷ entry_of 144 144 22 22 6 6 1558 620 10 false
    ∷ []

-- ---- what a size is made of

-- The modules of a symbol, whose number is also called its area here.
abbrev pub area : SizeEntry → ℕ
area size = size.rows * size.columns

-- The rows of the mapping matrix, which is all regions together without their borders.
abbrev pub mapping_rows : SizeEntry → ℕ
mapping_rows size = size.regions_down * size.region_rows

-- The columns of the mapping matrix.
abbrev pub mapping_columns : SizeEntry → ℕ
mapping_columns size = size.regions_across * size.region_columns

-- A symbol of this size has this many codewords, data and check codewords together.
abbrev pub codeword_count : SizeEntry → ℕ
codeword_count size = size.data_count + size.check_count

-- Of `count` things that are dealt in turn into B blocks, block b, where b is below B, gets this many.
abbrev pub count_in_block : ℕ → ℕ → ℕ → ℕ
count_in_block count B b = (count + B - 1 - b) / B

-- Block b of this size has this many data codewords. In 144 x 144 the last two blocks have one fewer than the others.
abbrev pub block_data : SizeEntry → ℕ → ℕ
block_data size b = count_in_block size.data_count size.blocks b

-- Each block of this size has this many check codewords.
abbrev pub block_check : SizeEntry → ℕ
block_check size = size.check_count / size.blocks

-- Block b of this size has this many codewords.
abbrev pub block_length : SizeEntry → ℕ → ℕ
block_length size b = count_in_block (codeword_count size) size.blocks b

-- The number of wrong codewords that can be corrected in a block.
abbrev pub limit : SizeEntry → ℕ
limit size = block_check size / 2

-- ---- sizes that are looked for

-- The size with these rows and columns is the entry of the table that has them, if there is one.
abbrev pub entry_with : ℕ → ℕ → Option SizeEntry
entry_with rows columns = find (λ size. nat_eq size.rows rows && nat_eq size.columns columns) size_table

-- The size stands in the table.
abbrev pub IsSize : SizeEntry → Type 0
IsSize size = entry_with size.rows size.columns ≡ Some size

-- A size is square if it has as many rows as columns.
abbrev pub is_square : SizeEntry → Bool
is_square size = nat_eq size.rows size.columns

-- A choice takes the squares, the rectangles of ISO/IEC 16022, the rectangles of both standards, all sizes, or one
-- size.
abbrev pub takes : SizeChoice → SizeEntry → Bool
takes Square size = is_square size
takes Rectangle size = not (is_square size) && not size.extended
takes AnyRectangle size = not (is_square size)
takes AnySize size = true
takes (Exact rows columns) size = nat_eq size.rows rows && nat_eq size.columns columns

-- The size of a choice for `count` data codewords is the first that the choice takes and that has at least as many, if
-- there is one; since the table rises, it is the smallest.
abbrev pub entry_for : SizeChoice → ℕ → Option SizeEntry
entry_for choice count = find (λ size. takes choice size && nat_le count size.data_count) size_table

-- ---- the greatest numbers of the table

-- No symbol of the table has more rows than this.
abbrev pub most_rows : ℕ
most_rows = 144

-- No symbol of the table has more columns than this.
abbrev pub most_columns : ℕ
most_columns = 144

-- No symbol of the table has more modules than this.
abbrev pub most_modules : ℕ
most_modules = 20736

-- No mapping matrix of the table has more cells than this.
abbrev pub most_cells : ℕ
most_cells = 17424

-- No symbol of the table has more data codewords than this.
abbrev pub most_data : ℕ
most_data = 1558

-- No symbol of the table has more codewords than this, data and check codewords together.
abbrev pub most_codewords : ℕ
most_codewords = 2178

-- No symbol of the table has more blocks than this.
abbrev pub most_blocks : ℕ
most_blocks = 10

-- No block of a symbol of the table has more check codewords than this.
abbrev pub most_block_check : ℕ
most_block_check = 68

-- ---- the bound of a block

-- No block may have more codewords than this: as many as the field has elements other than 0. The laws of codewords
-- hold up to this length. The longest block of the table has 243.
abbrev pub longest_block : ℕ
longest_block = 255

-- ---- laws

-- The number is the greatest of a column of these sizes: some of them has it, and none has more.
pub record IsGreatestOf {A : Type 0} (sizes : List A) (column : A → ℕ) (number : ℕ) : Type 0 where
  pub met : Any (λ size. column size ≡ number) sizes
  pub most : All (λ size. column size ≤ number) sizes

-- The number is the greatest of a column of the table.
abbrev pub IsGreatest : (SizeEntry → ℕ) → ℕ → Type 0
IsGreatest = IsGreatestOf size_table

-- The numbers of a size agree: regions with their borders make the symbol, the mapping matrix has eight cells for each
-- codeword and at most seven more, and each block has the same number of check codewords.
pub record Agrees (size : SizeEntry) : Type 0 where
  pub rows : size.rows ≡ size.regions_down * (size.region_rows + 2)
  pub columns : size.columns ≡ size.regions_across * (size.region_columns + 2)
  pub codewords : codeword_count size ≡ mapping_rows size * mapping_columns size / 8
  pub checks : size.check_count ≡ size.blocks * block_check size

-- A size has a mapping matrix of these rows, columns and codewords.
abbrev pub matrix_of : SizeEntry → SidesRow
matrix_of size = sides_of (mapping_rows size) (mapping_columns size) (codeword_count size)

-- The matrices for which `dm_place` shows the laws of placement are the mapping matrices of the sizes, and no others.
pub record MatricesAgree : Type 0 where
  pub each : All (λ size. row_with_sides (mapping_rows size) (mapping_columns size) ≡ Some (matrix_of size)) size_table
  pub no_other : All (λ matrix. Any (λ size. matrix_of size ≡ matrix) size_table) sides_table
