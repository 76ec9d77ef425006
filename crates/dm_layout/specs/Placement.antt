-- Where the codewords lie in the mapping square of side n: the placement in a mapping matrix of n rows and n columns.
use Rattle.std.specs.Prelude.{ℕ, List}
use Rattle.dm_place.specs.Placement as matrix
use Rattle.dm_place.specs.Sweep as sweeping
use Rattle.dm_place.specs.declared.shape.Cell.{Cell}
use Rattle.dm_place.specs.declared.shape.Shape.{Shape}
use Rattle.dm_place.specs.declared.cells.Place.{Place}
pub use Rattle.dm_place.specs.Placement.{At, bits_from}

-- The codewords of the square have these shapes, in order.
abbrev pub shapes : ℕ → List Shape
shapes n = matrix.shapes n n

-- The place of a bit of a codeword in the square.
abbrev pub place : ℕ → ℕ → ℕ → Cell
place n = matrix.place n n

-- This bit of this codeword lies in the cell of the square.
abbrev pub IsPlace : ℕ → ℕ → ℕ → Cell → Type 0
IsPlace n = matrix.IsPlace n n

-- Exactly one bit of one codeword lies in the cell of the square.
abbrev pub OnePlace : ℕ → Cell → Type 0
OnePlace n = matrix.OnePlace n n

-- Each cell of the square holds exactly one bit, or belongs to the fixed square and holds none; and each bit lies in
-- the square.
abbrev pub EachCellOnce : ℕ → Type 0
EachCellOnce n = matrix.EachCellOnce n n

-- These are the places of all bits of the codewords from number `word` on, which have these shapes in the square.
abbrev pub places_from : ℕ → ℕ → List Shape → List Place
places_from n = matrix.places_from n n

-- The places of all bits in the square are ordered by codeword and then by bit.
abbrev pub places_in_order : ℕ → List Place
places_in_order n = matrix.places_in_order n n

-- The list has the places of all bits of all codewords of the square, by codeword and then by bit.
abbrev pub IsPlaceList : ℕ → List Place → Type 0
IsPlaceList n = matrix.IsPlaceList n n

-- The sweep of the square places the shapes of this list, and ends.
abbrev pub Sweeps : ℕ → List Shape → Type 0
Sweeps n = sweeping.Sweeps n n
