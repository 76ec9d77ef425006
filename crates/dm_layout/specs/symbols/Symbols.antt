-- The modules of a symbol, each dark or light (ISO/IEC 16022, symbol structure).
use Rattle.std.specs.Prelude.{◌≡◌, ℕ, ◌+◌, ◌*◌, ◌/◌, ◌%◌, ◌^◌, Bool, false, nat_eq, List, [], map, length, get_or, All}
use Rattle.std.specs.List.{range_with_len}
use Rattle.dm_layout.specs.symbols.Sizes.{SizeEntry, IsSize}

-- The modules of a symbol have a size and stand in rows, from the top, each from the left; true is dark.
pub record SymbolView : Type 0 where
  pub size : SizeEntry
  pub rows : List (List Bool)

-- A symbol is well formed if its size stands in the table and it has as many rows of modules as the size has, each of
-- as many modules as the size has columns.
pub record IsSymbol (modules : SymbolView) : Type 0 where
  pub size : IsSize modules.size
  pub height : length modules.rows ≡ modules.size.rows
  pub width : All (λ line. length line ≡ modules.size.columns) modules.rows

-- A module is given by its row and its column, both counted from 0 at the top left.
abbrev pub module_at : SymbolView → ℕ → ℕ → Bool
module_at modules row column = get_or (get_or modules.rows row []) column false

-- These are the rows in which the module at a row and a column has the colour `colour row column`.
abbrev pub rows_by : ℕ → ℕ → (ℕ → ℕ → Bool) → List (List Bool)
rows_by rows columns colour = map (λ row. map (colour row) (range_with_len 0 columns)) (range_with_len 0 rows)

-- These are the rows of modules that are listed row by row from the top.
abbrev pub rows_of : ℕ → ℕ → List Bool → List (List Bool)
rows_of rows columns list = rows_by rows columns (λ row column. get_or list (row * columns + column) false)

-- In a row that is written as a number, the module of a column, counted from 0 at the left, is the bit of weight
-- 2^column; 1 is dark.
abbrev pub is_dark_bit : ℕ → ℕ → Bool
is_dark_bit row column = nat_eq (row / 2 ^ column % 2) 1
