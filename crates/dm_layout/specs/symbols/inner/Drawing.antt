-- How the modules of a symbol are drawn: borders, the fixed square, and the cells of the mapping matrix in between.
use Rattle.std.specs.Prelude.{ℕ, ◌+◌, ◌-◌, ◌*◌, ◌/◌, Bool}
use Rattle.std.specs.Prelude.{List, if◌then◌else◌}
use Rattle.dm_place.specs.Border.{is_fixed, fixed_is_dark}
use Rattle.dm_place.specs.Holding.{look_at}
use Rattle.dm_layout.specs.symbols.Sizes.{SizeEntry, mapping_rows, mapping_columns}
use Rattle.dm_layout.specs.symbols.Border.{is_border, border_is_dark}

-- A row of the symbol that is no border's is this row of the mapping matrix, where the data regions have d rows; a
-- column likewise.
abbrev pub mapping_line : ℕ → ℕ → ℕ
mapping_line d line = line - 2 * (line / (d + 2)) - 1

-- A cell of the fixed square has its colour, and any other that of the mapping matrix.
abbrev pub inner_colour : SizeEntry → List Bool → ℕ → ℕ → Bool
inner_colour size mapping row column =
    if is_fixed (mapping_rows size) (mapping_columns size) row column then fixed_is_dark row column
    else look_at mapping (mapping_columns size) row column

-- A border module has its colour, and any other that of the cell of the mapping matrix that lies there.
abbrev pub drawn_colour : SizeEntry → List Bool → ℕ → ℕ → Bool
drawn_colour size mapping row column =
    if is_border size row column then border_is_dark size row column
    else inner_colour size mapping (mapping_line size.region_rows row) (mapping_line size.region_columns column)
