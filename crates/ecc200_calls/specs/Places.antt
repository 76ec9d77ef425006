-- What each module of a symbol is (ISO/IEC 16022 and ISO/IEC 21471, symbol structure and module placement).
use Rattle.std.specs.Prelude.{◌≡◌, ℕ, ◌+◌, ◌*◌, ◌<◌, ◌≤◌, Bool, true, if◌then◌else◌, List, get_or, Some, IsNone}
use Rattle.dm_place.specs.declared.shape.Cell.{Cell}
use Rattle.dm_place.specs.Border.{is_fixed, fixed_is_dark, symbol_line}
use Rattle.dm_place.specs.Placement.{IsPlace}
use Rattle.dm_layout.specs.symbols.Sizes.{SizeEntry, area, entry_with, mapping_rows, mapping_columns}
use Rattle.dm_layout.specs.symbols.Border.{is_border, border_is_dark}
use Rattle.ecc200_calls.specs.declared.fault.Fault.{Fault}
use Rattle.ecc200_calls.specs.declared.place_table.PlaceOut.{PlaceOut}
use Rattle.ecc200_calls.specs.declared.place_table.PlacesOut.{PlacesOut}
use Rattle.ecc200_calls.specs.Faults.{fault}

-- This stands where there is no module of the symbol.
abbrev pub nothing : PlaceOut
nothing = record { codeword = 0; bit = 0; kind = 0 }

-- This is a bit, 1 for the highest to 8, of a codeword, counted from 0.
abbrev pub bit_place : ℕ → ℕ → PlaceOut
bit_place codeword bit = record { codeword = codeword; bit = bit; kind = 1 }

-- This is a module of a border, which is to be dark or light.
abbrev pub border_place : Bool → PlaceOut
border_place dark = record { codeword = 0; bit = 0; kind = if dark then 3 else 2 }

-- This is a module of the fixed square, which is to be dark or light.
abbrev pub fixed_place : Bool → PlaceOut
fixed_place dark = record { codeword = 0; bit = 0; kind = if dark then 5 else 4 }

-- This stands at a row and a column of the symbol.
abbrev pub place_at : SizeEntry → List PlaceOut → ℕ → ℕ → PlaceOut
place_at size places row column = get_or places (row * size.columns + column) nothing

-- This stands in the symbol where a cell of the mapping matrix lies.
abbrev pub mapped_place : SizeEntry → List PlaceOut → ℕ → ℕ → PlaceOut
mapped_place size places row column =
    place_at size places (symbol_line size.region_rows row) (symbol_line size.region_columns column)

-- These are the modules of a symbol of this size: each bit of each codeword where it lies, the borders, and the fixed
-- square. That each module is exactly one of these is a law of the placement.
pub record ArePlacesOf (size : SizeEntry) (places : List PlaceOut) : Type 0 where
  pub bits : (word bit : ℕ) (cell : Cell) → IsPlace (mapping_rows size) (mapping_columns size) word bit cell →
      mapped_place size places cell.row cell.column ≡ bit_place word bit
  pub border : (row column : ℕ) → row < size.rows → column < size.columns → is_border size row column ≡ true →
      place_at size places row column ≡ border_place (border_is_dark size row column)
  pub fixed : (row column : ℕ) → row < mapping_rows size → column < mapping_columns size →
      is_fixed (mapping_rows size) (mapping_columns size) row column ≡ true →
      mapped_place size places row column ≡ fixed_place (fixed_is_dark row column)

-- After a fault there is that fault, no rows and no columns, and the places are as they were before.
abbrev pub no_places : Fault → PlacesOut → PlacesOut
no_places why before = record { fault = why; rows = 0; columns = 0; places = before.places }

-- For these rows and columns is given that no size has them, or the modules of the size that has them; what stands
-- behind these is as it was before.
pub data IsPlacesResult (rows columns : ℕ) (before after : PlacesOut) : Type 0 where
  no_size : IsNone (entry_with rows columns) → after ≡ no_places (fault 4 rows columns) before
      → IsPlacesResult rows columns before after
  modules : (size : SizeEntry) → entry_with rows columns ≡ Some size → after.fault ≡ fault 0 0 0 → after.rows ≡ rows
      → after.columns ≡ columns → ArePlacesOf size after.places
      → ((index : ℕ) → area size ≤ index → get_or after.places index nothing ≡ get_or before.places index nothing)
      → IsPlacesResult rows columns before after
