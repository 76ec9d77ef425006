-- The sweep by which ISO/IEC 16022 (module placement) fills a mapping matrix, turn by turn, over a table of filled
-- cells. It knows nothing of the sums r + c and of the congruence of 5r + c, by which the closed form is given; both
-- share the cells of a shape. That the sweep places the shapes of the closed form is a law.
use Rattle.std.specs.Prelude.{◌≡◌, ℕ, zero, suc, ◌+◌, ◌*◌, ◌%◌, Bool, true, false, not, ◌&&◌, ◌||◌, nat_eq, nat_lt}
use Rattle.std.specs.Prelude.{List, [], ◌∷◌, ◌++◌, get_or, set, replicate, ℤ, pos, negsuc, ◌+ℤ◌, ◌-ℤ◌, int_lt, int_le}
use Rattle.std.specs.List.{list_any}
use Rattle.dm_place.specs.declared.shape.Cell.{Cell}
use Rattle.dm_place.specs.declared.shape.Shape.{Shape}
use Rattle.dm_place.specs.declared.shape.Shape.TheVariants.{Standard, Corner1, Corner2, Corner3, Corner4}
use Rattle.dm_place.specs.Placement.{cells_of}

-- ---- the turns. Row and column are whole numbers, since a turn leaves the matrix on all sides.

-- A turn that begins at row r, column c begins with this corner, if with any.
abbrev pub corner_at : ℕ → ℕ → ℕ → ℕ → List Shape
corner_at rows columns r c =
    elim (nat_eq r rows && nat_eq c 0) [
      | true ↦ Corner1 ∷ []
      | false ↦ elim (nat_eq (r + 2) rows && nat_eq c 0 && not (nat_eq (columns % 4) 0)) [
        | true ↦ Corner2 ∷ []
        | false ↦ elim (nat_eq (r + 2) rows && nat_eq c 0 && nat_eq (columns % 8) 4) [
          | true ↦ Corner3 ∷ []
          | false ↦ elim (nat_eq r (rows + 4) && nat_eq c 2 && nat_eq (columns % 8) 0) [
            | true ↦ Corner4 ∷ []
            | false ↦ []
          ]
        ]
      ]
    ]

-- A turn that begins above the matrix or left of it begins with no corner.
abbrev pub corner_of_turn : ℕ → ℕ → ℤ → ℤ → List Shape
corner_of_turn rows columns (pos r) (pos c) = corner_at rows columns r c
corner_of_turn rows columns (pos r) (negsuc c) = []
corner_of_turn rows columns (negsuc r) c = []

-- At a cell inside the matrix the sweep comes by the standard shape that has its anchor there, and elsewhere by none.
abbrev pub inside_at : ℕ → ℕ → ℤ → ℤ → List Shape
inside_at rows columns (pos r) (pos c) =
    elim (nat_lt r rows && nat_lt c columns) [ true ↦ Standard r c ∷ [] | false ↦ [] ]
inside_at rows columns (pos r) (negsuc c) = []
inside_at rows columns (negsuc r) c = []

-- A turn has three parts.
pub data Part : Type 0 where
  Corner : Part
  Upwards : Part
  Downwards : Part

-- These are the shapes that the turns come by in at most this many moves, whether their cells are filled or not. A turn
-- is its corner; then upwards the cells (r, c), (r-2, c+2), (r-4, c+4), .. until the row is below 0 or the column is
-- past the last, and from there one row down and three columns right; then downwards likewise by two rows down and two
-- columns left until the row is past the last or the column is below 0, and from there three rows down and one column
-- right. Turns go on while the row or the column is not past the last.
unfoldable pub comes_by : ℕ → ℕ → ℕ → Part → ℤ → ℤ → List Shape
comes_by zero rows columns part r c = []
comes_by (suc k) rows columns Corner r c =
    elim (int_lt r (pos rows) || int_lt c (pos columns)) [
      | true ↦ corner_of_turn rows columns r c ++ comes_by k rows columns Upwards r c
      | false ↦ []
    ]
comes_by (suc k) rows columns Upwards r c =
    inside_at rows columns r c
    ++ elim (int_lt (r -ℤ pos 2) (pos 0) || int_le (pos columns) (c +ℤ pos 2)) [
      | true ↦ comes_by k rows columns Downwards (r -ℤ pos 2 +ℤ pos 1) (c +ℤ pos 2 +ℤ pos 3)
      | false ↦ comes_by k rows columns Upwards (r -ℤ pos 2) (c +ℤ pos 2)
    ]
comes_by (suc k) rows columns Downwards r c =
    inside_at rows columns r c
    ++ elim (int_le (pos rows) (r +ℤ pos 2) || int_lt (c -ℤ pos 2) (pos 0)) [
      | true ↦ comes_by k rows columns Corner (r +ℤ pos 2 +ℤ pos 3) (c -ℤ pos 2 +ℤ pos 1)
      | false ↦ comes_by k rows columns Downwards (r +ℤ pos 2) (c -ℤ pos 2)
    ]

-- ---- the table of filled cells: for each row the list of its filled columns

-- Before the sweep no cell is filled.
abbrev pub nothing_filled : ℕ → List (List ℕ)
nothing_filled rows = replicate rows []

-- A cell is filled if the list of its row has its column.
abbrev pub is_filled : List (List ℕ) → ℕ → ℕ → Bool
is_filled table r c = list_any (nat_eq c) (get_or table r [])

-- This is the table with these cells filled too.
abbrev pub fill : List (List ℕ) → List Cell → List (List ℕ)
fill table [] = table
fill table (x ∷ rest) = fill (set table x.row (x.column ∷ get_or table x.row [])) rest

-- A standard shape is left out where its anchor is filled; a corner is never left out.
abbrev pub is_left_out : List (List ℕ) → Shape → Bool
is_left_out table (Standard r c) = is_filled table r c
is_left_out table Corner1 = false
is_left_out table Corner2 = false
is_left_out table Corner3 = false
is_left_out table Corner4 = false

-- Of the shapes that it comes by, in turn, the sweep places those that aren't left out, and each fills its cells.
unfoldable pub placed : ℕ → ℕ → List (List ℕ) → List Shape → List Shape
placed rows columns table [] = []
placed rows columns table (s ∷ rest) =
    elim (is_left_out table s) [
      | true ↦ placed rows columns table rest
      | false ↦ s ∷ placed rows columns (fill table (cells_of rows columns s)) rest
    ]

-- The sweep begins at row 4, column 0 with nothing filled, and places these shapes in at most this many moves.
unfoldable pub sweep_within : ℕ → ℕ → ℕ → List Shape
sweep_within moves rows columns =
    placed rows columns (nothing_filled rows) (comes_by moves rows columns Corner (pos 4) (pos 0))

-- The sweep places these shapes; for every matrix of the table it ends within as many moves as there are cells, so
-- further moves place nothing.
abbrev pub sweep : ℕ → ℕ → List Shape
sweep rows columns = sweep_within (rows * columns) rows columns

-- The sweep places the shapes of this list, and ends: further moves place nothing more.
pub record Sweeps (rows columns : ℕ) (placed_shapes : List Shape) : Type 0 where
  pub places : sweep rows columns ≡ placed_shapes
  pub ends : (more : ℕ) → sweep_within (rows * columns + more) rows columns ≡ sweep rows columns
