-- What single modules of a square are, by row and column: ISO/IEC 16022, symbol structure and module placement.
use Rattle.std.specs.Prelude.{◌≡◌, ℕ, ◌<◌, true}
use Rattle.dm_layout.specs.Sizes.{SizeRow, IsRow}
use Rattle.dm_layout.specs.Border.{is_border, is_fixed, symbol_line}
use Rattle.dm_layout.specs.Placement.{IsPlace}
use Rattle.dm_place.specs.declared.shape.Cell.{Cell}

-- A module is of a border, or of the fixed square, or it is a bit, 1 to 8, of a codeword, counted from 0.
pub data Kind : Type 0 where
  OfBorder : Kind
  OfFixedSquare : Kind
  Bit : (word bit : ℕ) → Kind

-- This cell of the mapping square lies at a row and a column of the symbol.
abbrev pub LiesAt : SizeRow → Cell → ℕ → ℕ → Type 0
LiesAt size cell row column =
    (symbol_line size.region_side cell.row ≡ row) × (symbol_line size.region_side cell.column ≡ column)

-- The module at a row and a column is of this kind: a border's lies in a border, and any other one where a cell of the
-- mapping square lies, one of the fixed square or the place of the bit.
abbrev pub IsOfKind : SizeRow → ℕ → ℕ → Kind → Type 0
IsOfKind size row column OfBorder = is_border size row column ≡ true
IsOfKind size row column OfFixedSquare =
    (cell : Cell) × (cell.row < size.mapping) × (cell.column < size.mapping)
    × (is_fixed size.mapping cell.row cell.column ≡ true) × LiesAt size cell row column
IsOfKind size row column (Bit word bit) =
    (cell : Cell) × IsPlace size.mapping word bit cell × LiesAt size cell row column

-- ---- laws

-- Each module of a square is of exactly one kind.
abbrev pub EachModuleHasOneKind : Type 0
EachModuleHasOneKind =
    (size : SizeRow) (row column : ℕ) → IsRow size → row < size.side → column < size.side →
    (kind : Kind) × IsOfKind size row column kind × ((other : Kind) → IsOfKind size row column other → other ≡ kind)
