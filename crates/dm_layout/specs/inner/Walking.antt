-- What the iterator over places has still to give, by its state.
use Rattle.std.specs.Prelude.{ℕ, ◌+◌, ◌-◌, ◌<◌, ◌≤◌, List, ◌++◌, drop, length}
use Rattle.dm_place.specs.declared.shape.Cell.{Cell}
use Rattle.dm_place.specs.declared.shape.Shape.{Shape}
use Rattle.dm_place.specs.declared.cells.Place.{Place}
use Rattle.dm_place.specs.Placement as matrix
use Rattle.dm_place.specs.Placement.{ShapesInside}
use Rattle.dm_layout.specs.Sizes.{largest_mapping}
use Rattle.dm_layout.specs.Placement.{bits_from, places_from}

-- All of these cells lie in the square.
abbrev pub CellsInside : ℕ → List Cell → Type 0
CellsInside n = matrix.CellsInside n n

-- These places are left when `bit` bits of the current shape have been
-- given, which is that of the codeword before number `taken`.
abbrev pub places_left : ℕ → List Cell → ℕ → ℕ → List Shape → List Place
places_left n current taken bit shapes = bits_from (taken - 1) bit (drop bit current) ++ places_from n taken shapes

-- At most eight bits of the current shape have been given, and the numbers of the codewords stay below 60,000.
pub record CellsAreSafe (n : ℕ) (current : List Cell) (taken bit : ℕ) (shapes : List Shape) : Type 0 where
  pub low : 8 ≤ n
  pub small : n ≤ largest_mapping
  pub within : bit ≤ 8
  pub begun : bit < 8 → 0 < taken
  pub room : taken + length shapes ≤ 60000
  pub inside : ShapesInside n n shapes
