-- A test that the sweep places these shapes and that each cell of the mapping matrix is one place. It keeps the filled
-- cells as one number, whose bit r * columns + c is set where cell (r, c) is filled.
use Rattle.std.proofs.Common.{ℕ, ◌+◌, ◌-◌, ◌*◌, ◌/◌, ◌%◌, ◌^◌, Bool, true, false, not, ◌&&◌, nat_eq, nat_lt, List, []}
use Rattle.std.proofs.Common.{◌∷◌, flat_map}
use Rattle.std.specs.Bool.{beq}
use Rattle.std.specs.Int.RustNames.{bit_or}
use Prim.Native.Nat.{bit_and}
use Rattle.std.specs.List.{list_all, range_with_len}
use Rattle.dm_place.specs.declared.shape.Cell.{Cell}
use Rattle.dm_place.specs.declared.shape.Shape.{Shape}
use Rattle.dm_place.specs.declared.shape.Shape.TheVariants.{Standard, Corner1, Corner2, Corner3, Corner4}
use Rattle.dm_place.specs.Border.{is_fixed}
use Rattle.dm_place.specs.Placement.{cells_of}
use Rattle.dm_place.proofs.SameShapes.{same_shape}

-- The cells of all bits of these shapes, codeword by codeword.
abbrev pub cells_of_all : ℕ → ℕ → List Shape → List Cell
cells_of_all rows columns ps = flat_map (cells_of rows columns) ps

-- The cell that belongs to this bit isn't filled. (The native `bit_and` computes at once; that of the contracts looks
-- whether t is 0 first.)
abbrev pub is_free : ℕ → ℕ → Bool
is_free t k = nat_eq (bit_and t (2 ^ k)) 0

-- The number of a cell, counted row by row.
abbrev pub number_of : ℕ → ℕ → Cell → ℕ
number_of rows columns x = x.row * columns + x.column

-- This cell is filled too.
abbrev pub with_cell : ℕ → ℕ → ℕ → Cell → ℕ
with_cell rows columns t x = bit_or t (2 ^ number_of rows columns x)

-- The cell lies in the matrix and isn't filled.
abbrev pub is_new : ℕ → ℕ → ℕ → Cell → Bool
is_new rows columns t x = nat_lt x.row rows && nat_lt x.column columns && is_free t (number_of rows columns x)

-- This new cell is filled too: a sum is then the same as `with_cell`, and cheaper to compute.
abbrev pub with_new : ℕ → ℕ → ℕ → Cell → ℕ
with_new rows columns t x = t + 2 ^ number_of rows columns x

-- These cells are new when they are filled one after the other, and with them filled what comes next passes its test.
abbrev pub fill_new : ℕ → ℕ → ℕ → List Cell → (ℕ → Bool) → Bool
fill_new rows columns t [] next = next t
fill_new rows columns t (x ∷ rest) next =
    elim (is_new rows columns t x) [
      | true ↦ fill_new rows columns (with_new rows columns t x) rest next
      | false ↦ false
    ]

-- The anchor of a standard shape lies in the matrix.
abbrev pub anchor_inside : ℕ → ℕ → Shape → Bool
anchor_inside rows columns (Standard r c) = nat_lt r rows && nat_lt c columns
anchor_inside rows columns Corner1 = true
anchor_inside rows columns Corner2 = true
anchor_inside rows columns Corner3 = true
anchor_inside rows columns Corner4 = true

-- A standard shape is left out where its anchor is filled; a corner is never left out.
abbrev pub left_out : ℕ → ℕ → ℕ → Shape → Bool
left_out rows columns t (Standard r c) = not (is_free t (r * columns + c))
left_out rows columns t Corner1 = false
left_out rows columns t Corner2 = false
left_out rows columns t Corner3 = false
left_out rows columns t Corner4 = false

-- The shape is the next one to be placed, and its cells are new.
abbrev pub places_next : ℕ → ℕ → ℕ → Shape → List Shape → (ℕ → List Shape → Bool) → Bool
places_next rows columns t s [] next = false
places_next rows columns t s (p ∷ ps) next =
    elim (same_shape s p) [ true ↦ fill_new rows columns t (cells_of rows columns s) (λ u. next u ps) | false ↦ false ]

-- The cells outside the fixed square are filled, and no others. Where there is no fixed square, the number that has all
-- bits is compared as a whole.
unfoldable pub all_filled : ℕ → ℕ → ℕ → Bool
all_filled rows columns t =
    elim (nat_eq (rows % 4) 2 && nat_eq (columns % 4) 2) [
      | true ↦ list_all (λ k. beq (is_free t k) (is_fixed rows columns (k / columns) (k % columns)))
          (range_with_len 0 (rows * columns))
      | false ↦ nat_eq t (2 ^ (rows * columns) - 1)
    ]

-- With the cells of this number filled, the sweep places of the shapes of the first list, which it comes by, those of
-- the second; the cells of each are new, and in the end the cells outside the fixed square are filled.
unfoldable pub sweep_test : ℕ → ℕ → ℕ → List Shape → List Shape → Bool
sweep_test rows columns t [] [] = all_filled rows columns t
sweep_test rows columns t [] (p ∷ ps) = false
sweep_test rows columns t (s ∷ rest) ps =
    elim (anchor_inside rows columns s) [
      | true ↦ elim (left_out rows columns t s) [
        | true ↦ sweep_test rows columns t rest ps
        | false ↦ places_next rows
            columns t s ps (λ u qs. sweep_test rows columns u rest qs)
      ]
      | false ↦ false
    ]
