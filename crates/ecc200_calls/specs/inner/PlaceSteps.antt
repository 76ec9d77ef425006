-- The steps in which the modules of a symbol are written.
use Rattle.std.specs.Prelude.{ℕ, ◌+◌, ◌*◌, Bool, nat_eq, Option, Some, None, List, [], ◌∷◌, set}
use Rattle.dm_place.specs.declared.cells.Place.{Place}
use Rattle.dm_place.specs.Border.{symbol_line}
use Rattle.dm_layout.specs.symbols.Sizes.{SizeEntry}
use Rattle.dm_layout.specs.symbols.Border.{border_colour}
use Rattle.ecc200_calls.specs.declared.place_table.PlaceOut.{PlaceOut}
use Rattle.ecc200_calls.specs.Places.{bit_place, border_place, fixed_place}

-- A colour is that of a module of a border; where there is none, the module is one of the fixed square.
abbrev pub structure_by : Option Bool → ℕ → ℕ → PlaceOut
structure_by (Some dark) row column = border_place dark
structure_by None row column = fixed_place (nat_eq row column)

-- This is a module before the bits are written.
abbrev pub structure_place : SizeEntry → ℕ → ℕ → PlaceOut
structure_place size row column = structure_by (border_colour size row column) row column

-- These are the modules after these bits are written, one after the other.
abbrev pub with_bits : SizeEntry → List Place → List PlaceOut → List PlaceOut
with_bits size [] places = places
with_bits size (p ∷ rest) places =
    with_bits size rest (set places (symbol_line size.region_rows p.row * size.columns
    + symbol_line size.region_columns p.column) (bit_place p.word p.bit))
