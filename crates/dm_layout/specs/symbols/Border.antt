-- Borders (the finder pattern and the alignment patterns) of whole symbols, where a cell of the mapping matrix lies in
-- the symbol, and the fixed square: ISO/IEC 16022, symbol structure.
use Rattle.std.specs.Prelude.{ℕ, ◌+◌, ◌%◌, Bool, not, ◌&&◌, if◌then◌else◌, sum_by, count_by, Option}
use Rattle.std.specs.Prelude.{Some, None}
use Rattle.std.specs.Bool.{beq}
use Rattle.std.specs.List.{range_with_len}
use Rattle.dm_place.specs.Border as matrix
use Rattle.dm_place.specs.Border.{is_on_edge, edge_is_dark, symbol_line}
use Rattle.dm_layout.specs.symbols.Sizes.{SizeEntry, mapping_rows, mapping_columns}
use Rattle.dm_layout.specs.symbols.Symbols.{SymbolView, module_at}

-- ---- the whole symbol, whose regions with their borders lie side by side and one above the other

-- A module of the symbol belongs to a border, that is, to the finder pattern or an alignment pattern, if it lies on the
-- edge of its region.
abbrev pub is_border : SizeEntry → ℕ → ℕ → Bool
is_border size row column =
    is_on_edge size.region_rows size.region_columns (row % (size.region_rows + 2)) (column % (size.region_columns + 2))

-- A border module of the symbol is dark if it is dark at its place in its region.
abbrev pub border_is_dark : SizeEntry → ℕ → ℕ → Bool
border_is_dark size row column =
    edge_is_dark size.region_rows (row % (size.region_rows + 2)) (column % (size.region_columns + 2))

-- A module of a border has a prescribed colour. Any other module has none here, not even one of the fixed square.
abbrev pub border_colour : SizeEntry → ℕ → ℕ → Option Bool
border_colour size row column = if is_border size row column then Some (border_is_dark size row column) else None

-- A cell of the mapping matrix has the colour of the module at which it lies.
abbrev pub mapped_cell : SymbolView → ℕ → ℕ → Bool
mapped_cell modules row column =
    module_at modules (symbol_line modules.size.region_rows row) (symbol_line modules.size.region_columns column)

-- ---- border faults

-- A border fault is a border module that has the wrong colour.
abbrev pub is_fault : SymbolView → ℕ → ℕ → Bool
is_fault modules row column =
    is_border modules.size row column
    && not (beq (module_at modules row column) (border_is_dark modules.size row column))

-- The border faults of a symbol are counted over all its modules.
abbrev pub border_fault_count : SymbolView → ℕ
border_fault_count modules =
    sum_by (λ row. count_by (is_fault modules row) (range_with_len 0 modules.size.columns))
    (range_with_len 0 modules.size.rows)

-- ---- the fixed square

-- Modules have the fixed square if their mapping matrix has it.
abbrev pub HasFixedSquare : SymbolView → Type 0
HasFixedSquare modules =
    matrix.HasFixedSquare (mapping_rows modules.size) (mapping_columns modules.size) (mapped_cell modules)
