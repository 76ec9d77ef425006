-- What the placement of matrices says of each size of the table.
use Rattle.dm_layout.proofs.Names.{◌≡◌, length, Some, All, All-from_recursion, All-weaker, row_with_sides}
use Rattle.dm_layout.proofs.Names.{once_at_sides, count_at_sides, SizeRow, IsRow, symbol_size}
use Rattle.dm_place.specs.Sides.{sides_of}
use Rattle.dm_place.proofs.Exported.{swept_at_sides, matrix_facts, MatrixFacts}
use Rattle.dm_layout.proofs.symbols.Exported.{placed_size}
use Rattle.dm_layout.specs.Sizes.{size_table, codeword_count}
use Rattle.dm_layout.specs.Placement.{shapes, EachCellOnce, Sweeps}
use Rattle.dm_layout.proofs.Squares.{is_size, to_square}
use Rattle.dm_layout.proofs.TableRows.{rows_found}

-- The mapping square of a size stands in the table of sides.
pub sides_at_row : (s : SizeRow) → IsRow s →
    row_with_sides s.mapping s.mapping ≡ Some (sides_of s.mapping s.mapping (codeword_count s))
sides_at_row s row =
    to_square (λ n. row_with_sides n n ≡ Some (sides_of n n (codeword_count s))) s row
    (placed_size (symbol_size s) (is_size s row))

-- What holds of a matrix of the table holds of the mapping square of a size.
pub facts_at_row : (s : SizeRow) → IsRow s → MatrixFacts s.mapping s.mapping (codeword_count s)
facts_at_row s row = matrix_facts s.mapping s.mapping (codeword_count s) (sides_at_row s row)

-- In the mapping square of a size, each cell outside the fixed square holds exactly one bit.
pub once_at_row : (s : SizeRow) → IsRow s → EachCellOnce s.mapping
once_at_row s row = once_at_sides s.mapping s.mapping (codeword_count s) (sides_at_row s row)

-- A size has as many shapes as codewords.
pub count_at_row : (s : SizeRow) → IsRow s → length (shapes s.mapping) ≡ codeword_count s
count_at_row s row = count_at_sides s.mapping s.mapping (codeword_count s) (sides_at_row s row)

-- The sweep of a size places the shapes of the closed form, and ends.
swept_at_row : (s : SizeRow) → IsRow s → Sweeps s.mapping (shapes s.mapping)
swept_at_row s row = swept_at_sides s.mapping s.mapping (codeword_count s) (sides_at_row s row)

-- ---- for all rows of the table

-- What holds of each size holds of each row of the table.
each_row : (P : SizeRow → Type 0) → ((s : SizeRow) → IsRow s → P s) → All P size_table
each_row P h = All-weaker IsRow P h size_table (All-from_recursion IsRow size_table rows_found)

-- In the mapping square of each size, each cell outside the fixed square holds exactly one bit.
pub each_size_once : All (λ size. EachCellOnce size.mapping) size_table
each_size_once = each_row (λ size. EachCellOnce size.mapping) once_at_row

-- Each size has as many shapes as codewords.
pub each_size_counted : All (λ size. length (shapes size.mapping) ≡ codeword_count size) size_table
each_size_counted = each_row (λ size. length (shapes size.mapping) ≡ codeword_count size) count_at_row

-- The sweep of each size places the shapes of the closed form, and ends.
pub each_size_swept : All (λ size. Sweeps size.mapping (shapes size.mapping)) size_table
each_size_swept = each_row (λ size. Sweeps size.mapping (shapes size.mapping)) swept_at_row
