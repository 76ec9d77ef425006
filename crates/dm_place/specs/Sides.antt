-- The mapping matrices of the 48 sizes of symbols: the squares and rectangles of ISO/IEC 16022, table of symbol
-- attributes, and the rectangles of ISO/IEC 21471, rectangular extension (DMRE).
use Rattle.std.specs.Prelude.{ℕ, ◌≤◌, ◌&&◌, List, [], ◌∷◌, Option, find, nat_eq}

-- The rows and the columns of a mapping matrix, and how many data and check codewords it holds.
pub record SidesRow : Type 0 where
  pub rows : ℕ
  pub columns : ℕ
  pub count : ℕ

-- These are the rows, columns and codewords of a mapping matrix.
abbrev pub sides_of : ℕ → ℕ → ℕ → SidesRow
sides_of rows columns count = record { rows = rows; columns = columns; count = count }

-- The 24 squares of ISO/IEC 16022 come first, then its 6 rectangles and the 18 of ISO/IEC 21471. That these are the
-- mapping matrices of the table of sizes is a law of `dm_layout`.
unfoldable pub sides_table : List SidesRow
sides_table =
    sides_of 8 8 8
    ∷ sides_of 10 10 12
    ∷ sides_of 12 12 18
    ∷ sides_of 14 14 24
    ∷ sides_of 16 16 32
    ∷ sides_of 18 18 40
    ∷ sides_of 20 20 50
    ∷ sides_of 22 22 60
    ∷ sides_of 24 24 72
    ∷ sides_of 28 28 98
    ∷ sides_of 32 32 128
    ∷ sides_of 36 36 162
    ∷ sides_of 40 40 200
    ∷ sides_of 44 44 242
    ∷ sides_of 48 48 288
    ∷ sides_of 56 56 392
    ∷ sides_of 64 64 512
    ∷ sides_of 72 72 648
    ∷ sides_of 80 80 800
    ∷ sides_of 88 88 968
    ∷ sides_of 96 96 1152
    ∷ sides_of 108 108 1458
    ∷ sides_of 120 120 1800
    ∷ sides_of 132 132 2178
    ∷ sides_of 6 16 12
    ∷ sides_of 6 28 21
    ∷ sides_of 10 24 30
    ∷ sides_of 10 32 40
    ∷ sides_of 14 32 56
    ∷ sides_of 14 44 77
    ∷ sides_of 6 44 33
    ∷ sides_of 6 56 42
    ∷ sides_of 6 72 54
    ∷ sides_of 6 88 66
    ∷ sides_of 6 108 81
    ∷ sides_of 6 132 99
    ∷ sides_of 10 56 70
    ∷ sides_of 10 80 100
    ∷ sides_of 14 56 98
    ∷ sides_of 18 32 72
    ∷ sides_of 18 40 90
    ∷ sides_of 18 56 126
    ∷ sides_of 20 44 110
    ∷ sides_of 22 44 121
    ∷ sides_of 22 56 154
    ∷ sides_of 24 36 108
    ∷ sides_of 24 44 132
    ∷ sides_of 24 56 168
    ∷ []

-- The row of the table with these rows and columns, if there is one.
abbrev pub row_with_sides : ℕ → ℕ → Option SidesRow
row_with_sides rows columns = find (λ row. nat_eq row.rows rows && nat_eq row.columns columns) sides_table

-- There are 6 to 132 rows and 6 to 132 columns. No matrix of the table has fewer or more of either; not each number in
-- between is one of the table.
pub record SidesAreSafe (rows columns : ℕ) : Type 0 where
  pub rows_low : 6 ≤ rows
  pub columns_low : 6 ≤ columns
  pub rows_most : rows ≤ 132
  pub columns_most : columns ≤ 132
