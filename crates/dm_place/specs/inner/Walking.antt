-- The shapes that are left, by the state of the iterator over the closed form.
use Rattle.std.specs.Prelude.{◌≡◌, ℕ, ◌+◌, ◌-◌, ◌*◌, ◌%◌, ◌<◌, ◌≤◌, List, ◌++◌, flat_map}
use Rattle.std.specs.List.{range_with_len}
use Rattle.dm_place.specs.declared.shape.Shape.{Shape}
use Rattle.dm_place.specs.declared.shapes.Part.{Part}
use Rattle.dm_place.specs.declared.shapes.Part.TheVariants.{Corner, Even, Odd}
use Rattle.dm_place.specs.declared.shapes.Steps.{Steps}
use Rattle.dm_place.specs.Placement.{in_even_row, in_odd_row, shapes_of_sum}
use Rattle.dm_place.specs.Sides.{SidesAreSafe}

-- These shapes have sum s or more.
abbrev pub from_sum : ℕ → ℕ → ℕ → List Shape
from_sum rows columns s = flat_map (shapes_of_sum rows columns) (range_with_len s (rows + columns - 1 - s))

-- These shapes of sum s are left in this part, from this column or row on, and those of larger sums.
abbrev pub left_at : ℕ → ℕ → ℕ → Part → ℕ → List Shape
left_at rows columns s Corner i = from_sum rows columns s
left_at rows columns s Even i =
    flat_map (in_even_row rows columns s) (range_with_len i (columns - i)) ++ from_sum rows columns (s + 1)
left_at rows columns s Odd i =
    flat_map (in_odd_row rows columns s) (range_with_len i (rows - i)) ++ from_sum rows columns (s + 1)

-- Before the corner the sum is a multiple of 4, and at most the first one past the last; among the anchors it is one
-- that has some, and their column, an even one, or their row, an odd one, is at most two past the last, and none of
-- those before the first.
abbrev pub PartIsSafe : ℕ → ℕ → ℕ → Part → ℕ → Type 0
PartIsSafe rows columns s Corner i = (s ≤ rows + columns + 2) × (s % 4 ≡ 0)
PartIsSafe rows columns s Even i =
    (s < rows + columns - 1) × (i ≤ columns + 1) × (i % 2 ≡ 0) × (s % 8 ≡ 4) × (s < rows + i)
PartIsSafe rows columns s Odd i =
    (s < rows + columns - 1) × (i ≤ rows + 1) × (i % 2 ≡ 1) × (s % 8 ≡ 0) × (s < columns + i)

-- This number falls at each step.
abbrev pub steps_left : ℕ → ℕ → ℕ → Part → ℕ → ℕ
steps_left rows columns s Corner i = 300 * (rows + columns - s)
steps_left rows columns s Even i = 300 * (rows + columns - s) - (1 + i)
steps_left rows columns s Odd i = 300 * (rows + columns - s) - (140 + i)

-- These shapes are left.
abbrev pub shapes_left : Steps → List Shape
shapes_left s = left_at s.rows s.columns s.sum s.part s.index

-- The rows and columns are of a size that the steps can go over, and so is where they are.
pub record StepsAreSafe (s : Steps) : Type 0 where
  pub sides : SidesAreSafe s.rows s.columns
  pub part : PartIsSafe s.rows s.columns s.sum s.part s.index
