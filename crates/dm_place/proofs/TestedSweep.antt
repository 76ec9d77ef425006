-- The test of the sweep, computed for the mapping matrix of each size.
use Rattle.std.proofs.Common.{zero, suc, [], ◌∷◌, ◌∙◌, ap, ◌≡◌, ℕ, ◌*◌, Bool, true, ◌&&◌, nat_eq, nat_lt, nat_le, List}
use Rattle.std.proofs.Common.{take, drop, length, refl, pos}
use Rattle.std.specs.List.{list_all}
use Rattle.std.proofs.lemmas.Bool.{and_parts}
use Rattle.dm_place.specs.declared.shape.Shape.{Shape}
use Rattle.dm_place.specs.declared.shape.Cell.{Cell}
use Rattle.dm_place.specs.Placement.{cells_of}
use Rattle.dm_place.specs.Sides.{SidesRow, sides_table}
use Rattle.dm_place.specs.Sweep.{comes_by}
use Rattle.dm_place.specs.Sweep.Part.{Corner}
use Rattle.dm_place.proofs.FewerTests.{few_shapes}
use Rattle.dm_place.proofs.SweepEnds.{is_done}
use Rattle.dm_place.proofs.SweepTest.{anchor_inside, all_filled, sweep_test}

-- The sweep comes by these shapes.
abbrev pub swept_by : ℕ → ℕ → List Shape
swept_by rows columns = comes_by (rows * columns) rows columns Corner (pos 4) (pos 0)

-- All of these cells lie in the matrix.
abbrev pub inside_test : ℕ → ℕ → List Cell → Bool
inside_test rows columns [] = true
inside_test rows columns (x ∷ rest) = (nat_lt x.row rows && nat_lt x.column columns) && inside_test rows columns rest

-- The anchor and all cells of a shape lie in the matrix.
abbrev pub fits_test : ℕ → ℕ → Shape → Bool
fits_test rows columns s = anchor_inside rows columns s && inside_test rows columns (cells_of rows columns s)

-- The sides are neither too small nor too large.
abbrev pub sides_test : ℕ → ℕ → Bool
sides_test rows columns = (nat_le 6 rows && nat_le 6 columns) && (nat_le rows 132 && nat_le columns 132)

-- The sweep is right and ends, and the matrix has as many shapes as codewords.
abbrev pub size_test : SidesRow → Bool
size_test size =
    sweep_test size.rows size.columns 0 (swept_by size.rows size.columns) (few_shapes size.rows size.columns)
    && is_done (size.rows * size.columns) size.rows size.columns Corner (pos 4) (pos 0)
    && nat_eq (length (few_shapes size.rows size.columns)) size.count
    && list_all (fits_test size.rows size.columns) (few_shapes size.rows size.columns)
    && sides_test size.rows size.columns

-- A list passes a test if its first n items and those after them do.
pass_parts : (p : SidesRow → Bool) (n : ℕ) (xs : List SidesRow) → list_all p (take n xs) ≡ true →
    list_all p (drop n xs) ≡ true → list_all p xs ≡ true
pass_parts p zero xs h g = g
pass_parts p (suc n) [] h g = refl
pass_parts p (suc n) (x ∷ xs) h g =
    let both = and_parts (p x) (list_all p (take n xs)) h in
    ap (λ (b : Bool). b && list_all p xs) both.0 ∙ pass_parts p n xs both.1 g

-- The table is computed part by part, since one computation takes at most 50 million steps: the squares of sides 8 to
-- 64, 72 to 96, 108, 120 and 132, and then the rectangles. All parts together take half a minute of processor time, and
-- the check that computes them 0.8 GB.
first_squares : list_all size_test (take 17 sides_table) ≡ true
unfolding sides_table few_shapes comes_by is_done all_filled sweep_test
first_squares = refl

further_squares : list_all size_test (take 4 (drop 17 sides_table)) ≡ true
unfolding sides_table few_shapes comes_by is_done all_filled sweep_test
further_squares = refl

square_of_108 : list_all size_test (take 1 (drop 4 (drop 17 sides_table))) ≡ true
unfolding sides_table few_shapes comes_by is_done all_filled sweep_test
square_of_108 = refl

square_of_120 : list_all size_test (take 1 (drop 1 (drop 4 (drop 17 sides_table)))) ≡ true
unfolding sides_table few_shapes comes_by is_done all_filled sweep_test
square_of_120 = refl

square_of_132 : list_all size_test (take 1 (drop 1 (drop 1 (drop 4 (drop 17 sides_table))))) ≡ true
unfolding sides_table few_shapes comes_by is_done all_filled sweep_test
square_of_132 = refl

rectangles : list_all size_test (drop 1 (drop 1 (drop 1 (drop 4 (drop 17 sides_table))))) ≡ true
unfolding sides_table few_shapes comes_by is_done all_filled sweep_test
rectangles = refl

-- Each size passes the test.
pub tested : list_all size_test sides_table ≡ true
tested =
    pass_parts size_test 17 sides_table first_squares
    (pass_parts size_test 4 (drop 17 sides_table) further_squares
    (pass_parts size_test 1 (drop 4 (drop 17 sides_table)) square_of_108
    (pass_parts size_test 1 (drop 1 (drop 4 (drop 17 sides_table))) square_of_120
    (pass_parts size_test 1 (drop 1 (drop 1 (drop 4 (drop 17 sides_table)))) square_of_132 rectangles))))
