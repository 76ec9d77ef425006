-- A grid is the square of modules of a symbol, each dark or light (ISO/IEC 16022, symbol structure). A module of a grid
-- is also called a cell here.
use Rattle.std.specs.Prelude.{◌≡◌, ℕ, ◌/◌, ◌%◌, ◌^◌, Bool, List, length, nat_eq, get_or, All}
use Rattle.dm_layout.specs.symbols.Symbols.{SymbolView, module_at, rows_by, rows_of}
use Rattle.dm_layout.specs.Sizes.{SizeRow, IsRow, symbol_size}

-- A grid has a size and the rows of its cells, from the top, each from the left; true is dark.
pub record GridView : Type 0 where
  pub size : SizeRow
  pub rows : List (List Bool)

-- The cells of a grid are the modules of a symbol.
abbrev pub symbol_modules : GridView → SymbolView
symbol_modules grid = record { size = symbol_size grid.size; rows = grid.rows }

-- A grid is well formed if its size stands in the table of squares and its cells are well-formed modules.
pub record IsGrid (grid : GridView) : Type 0 where
  pub row : IsRow grid.size
  pub height : length grid.rows ≡ grid.size.side
  pub width : All (λ line. length line ≡ grid.size.side) grid.rows

-- A cell of a grid is given by its row and its column, as a module is.
abbrev pub cell_at : GridView → ℕ → ℕ → Bool
cell_at grid = module_at (symbol_modules grid)

-- These are the rows of a square in which the cell at a row and a column has the colour `colour row column`.
abbrev pub square_by : ℕ → (ℕ → ℕ → Bool) → List (List Bool)
square_by side = rows_by side side

-- These are the rows of a square whose cells are listed row by row from the top.
abbrev pub square_of : ℕ → List Bool → List (List Bool)
square_of side = rows_of side side

-- ---- rows as numbers

-- In a row that is written as a number, the cell of a column, counted from 0 at the left, is the bit of weight
-- 2^column; 1 is dark.
abbrev pub is_dark_in : ℕ → ℕ → Bool
is_dark_in row column = nat_eq (row / 2 ^ column % 2) 1

-- These are the rows of a square that are written as numbers, from the top; only the lowest `side` bits of each count.
abbrev pub square_of_rows : ℕ → List ℕ → List (List Bool)
square_of_rows side rows = square_by side (λ row. is_dark_in (get_or rows row 0))
