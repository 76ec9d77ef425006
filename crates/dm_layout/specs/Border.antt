-- Borders (the finder pattern and the alignment patterns) of squares, where a cell of the mapping square lies in the
-- symbol, and the fixed square: all as in symbols of any size.
use Rattle.std.specs.Prelude.{ℕ, Bool}
use Rattle.dm_place.specs.Border as matrix
use Rattle.dm_layout.specs.symbols.Border as symbols
pub use Rattle.dm_place.specs.Border.{symbol_line}
use Rattle.dm_layout.specs.Sizes.{SizeRow, symbol_size}
use Rattle.dm_layout.specs.Grid.{GridView, symbol_modules}

-- A cell of the square belongs to a border.
abbrev pub is_border : SizeRow → ℕ → ℕ → Bool
is_border size = symbols.is_border (symbol_size size)

-- A border cell of the square is dark.
abbrev pub border_is_dark : SizeRow → ℕ → ℕ → Bool
border_is_dark size = symbols.border_is_dark (symbol_size size)

-- The colour of a cell of the mapping square is that of the symbol's.
abbrev pub mapped_cell : GridView → ℕ → ℕ → Bool
mapped_cell grid = symbols.mapped_cell (symbol_modules grid)

-- A cell of the grid is a border fault.
abbrev pub is_fault : GridView → ℕ → ℕ → Bool
is_fault grid = symbols.is_fault (symbol_modules grid)

-- The border faults of a grid are counted as those of its symbol.
abbrev pub border_fault_count : GridView → ℕ
border_fault_count grid = symbols.border_fault_count (symbol_modules grid)

-- A cell of a mapping square of side n belongs to the fixed square.
abbrev pub is_fixed : ℕ → ℕ → ℕ → Bool
is_fixed n = matrix.is_fixed n n

-- A grid has the fixed square if its mapping square has it.
abbrev pub HasFixedSquare : GridView → Type 0
HasFixedSquare grid = matrix.HasFixedSquare grid.size.mapping grid.size.mapping (mapped_cell grid)
