-- The cells of all shapes of a mapping matrix lie in it.
use Rattle.std.proofs.Common.{arith, ◌≡◌, ℕ, true, ◌&&◌, nat_lt, nat_le, List, [], ◌∷◌, length, Some}
use Rattle.std.proofs.lemmas.Bool.Decides.{nat_tests}
use Rattle.std.specs.List.{list_all}
use Rattle.std.proofs.lemmas.Bool.{and_parts, ltb-true, leb-true}
use Rattle.dm_place.specs.declared.shape.Cell.{Cell}
use Rattle.dm_place.specs.declared.shape.Shape.{Shape}
use Rattle.dm_place.specs.Placement.{cells_of, shapes, AnchorInside, CellsInside, ShapesInside}
use Rattle.dm_place.specs.Sides.{sides_of, row_with_sides, SidesAreSafe}
use Rattle.dm_place.proofs.SweepTest.{anchor_inside}
use Rattle.dm_place.proofs.TestedSweep.{inside_test, fits_test}
use Rattle.dm_place.proofs.PlacementRows.{passes_at_row}

-- Cells that pass the test lie in the matrix.
pub cells_inside : (rows columns : ℕ) (xs : List Cell) → inside_test rows columns xs ≡ true →
    CellsInside rows columns xs
cells_inside rows columns [] h = tt
cells_inside rows columns (x ∷ xs) h =
    let both = and_parts (nat_lt x.row rows && nat_lt x.column columns) (inside_test rows columns xs) h in
    let here = and_parts (nat_lt x.row rows) (nat_lt x.column columns) both.0 in
    (ltb-true x.row rows here.0, ltb-true x.column columns here.1, cells_inside rows columns xs both.1)

-- An anchor that passes the test lies in the matrix.
anchor_in : (rows columns : ℕ) (s : Shape) → anchor_inside rows columns s ≡ true → AnchorInside rows columns s
anchor_in rows columns x h = grind (arith, nat_tests)

-- Shapes that pass the test lie in the matrix.
all_inside : (rows columns : ℕ) (ss : List Shape) → list_all (fits_test rows columns) ss ≡ true →
    ShapesInside rows columns ss
all_inside rows columns [] h = tt
all_inside rows columns (s ∷ ss) h =
    let both = and_parts (fits_test rows columns s) (list_all (fits_test rows columns) ss) h in
    let here = and_parts (anchor_inside rows columns s) (inside_test rows columns (cells_of rows columns s)) both.0 in (
      anchor_in rows columns s here.0,
      cells_inside rows columns (cells_of rows columns s) here.1,
      all_inside rows columns ss both.1,
    )

-- What holds of a matrix whose sides stand in the table.
pub record MatrixFacts (rows columns count : ℕ) : Type 0 where
  pub counted : length (shapes rows columns) ≡ count
  pub inside : ShapesInside rows columns (shapes rows columns)
  pub safe : SidesAreSafe rows columns

-- These facts hold of each matrix of the table.
pub matrix_facts : (rows columns count : ℕ) → row_with_sides rows columns ≡ Some (sides_of rows columns count) →
    MatrixFacts rows columns count
matrix_facts rows columns count row =
    let passed = passes_at_row rows columns (sides_of rows columns count) row in
    let sides = and_parts (nat_le 6 rows && nat_le 6 columns) (nat_le rows 132 && nat_le columns 132) passed.sides in
    let low = and_parts (nat_le 6 rows) (nat_le 6 columns) sides.0 in
    let most = and_parts (nat_le rows 132) (nat_le columns 132) sides.1 in
    record {
      counted = passed.counted;
      inside = all_inside rows columns (shapes rows columns) passed.fits;
      safe =
          record {
            rows_low = leb-true 6 rows low.0;
            columns_low = leb-true 6 columns low.1;
            rows_most =
                leb-true rows 132 most.0;
            columns_most = leb-true columns 132 most.1;
          };
    }
