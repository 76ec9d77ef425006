-- What the computed test of the sweep says of each size of the table.
use Rattle.std.proofs.lemmas.Bool.Decides.{nat_tests}
use Rattle.std.proofs.Common.{arith, ◌≡◌, ℕ, ◌*◌, ◌&&◌, true, nat_eq, List, length, subst, sym, ap, ◌∙◌, cond}
use Rattle.std.specs.Prelude.{pos, find, Option, Some, Bool, [], ◌∷◌}
use Rattle.std.specs.List.{All, list_all, AllByRecursion}
use Rattle.std.proofs.lemmas.Bool.{and_parts, eqb-true}
use Rattle.std.proofs.lemmas.List.Elements.{All-weaker, recursion_from_All}
use Rattle.std.proofs.lemmas.List.Sums.{AllPass-from_list_all}
use Rattle.dm_place.specs.declared.shape.Shape.{Shape}
use Rattle.dm_place.specs.Sides.{SidesRow, sides_of, sides_table, row_with_sides}
use Rattle.dm_place.specs.Placement.{shapes, EachCellOnce}
use Rattle.dm_place.specs.Sweep.{sweep, sweep_within, Sweeps}
use Rattle.dm_place.specs.Sweep.Part.{Corner}
use Rattle.dm_place.proofs.FewerTests.{few_shapes, shapes-few}
use Rattle.dm_place.proofs.OnePlace.{each_cell_once}
use Rattle.dm_place.proofs.SweepEnds.{is_done, sweep-more}
use Rattle.dm_place.proofs.SweepTest.{sweep_test}
use Rattle.dm_place.proofs.SweptCells.{fills_all}
use Rattle.dm_place.proofs.SweptShapes.{sweep_places}
use Rattle.dm_place.proofs.TestedSweep.{swept_by, size_test, tested, fits_test, sides_test}

-- What holds of the first item, and of what is found among the others, holds of what is found among all.
found_case : {X : Type 0} (P : X → Type 0) (y x : X) (o : Option X) (b : Bool) → P y → (o ≡ Some x → P x) →
    cond b (Some y) o ≡ Some x → P x
found_case z y x o w h k e = grind (arith, nat_tests)

-- What holds of each item of a list holds of the one that is found.
pub at_found : {X : Type 0} (P : X → Type 0) (p : X → Bool) (xs : List X) (x : X) → AllByRecursion P xs →
    find p xs ≡ Some x → P x
at_found P p [] x h e = cc
at_found P p (y ∷ ys) x h e = found_case P y x (find p ys) (p y) h.0 (at_found P p ys x h.1) e

-- A size that passes its test is swept, its sweep ends, and it has as many shapes as codewords.
pub record PassesTest (size : SidesRow) : Type 0 where
  pub swept : sweep_test size.rows size.columns 0 (swept_by size.rows size.columns) (shapes size.rows size.columns) ≡
      true
  pub done : is_done (size.rows * size.columns) size.rows size.columns Corner (pos 4) (pos 0) ≡ true
  pub fits : list_all (fits_test size.rows size.columns) (shapes size.rows size.columns) ≡ true
  pub sides : sides_test size.rows size.columns ≡ true
  pub counted : length (shapes size.rows size.columns) ≡ size.count

-- What the computed test says.
pub passes_test : (size : SidesRow) → size_test size ≡ true → PassesTest size
passes_test size h =
    let r : ℕ = size.rows in
    let c : ℕ = size.columns in
    let swept : Bool = sweep_test r c 0 (swept_by r c) (few_shapes r c) in
    let done : Bool = is_done (r * c) r c Corner (pos 4) (pos 0) in
    let counted : Bool = nat_eq (length (few_shapes r c)) size.count in
    let fits : Bool = list_all (fits_test r c) (few_shapes r c) in
    let four = and_parts (swept && done && counted && fits) (sides_test r c) h in
    let three = and_parts (swept && done && counted) fits four.0 in
    let both = and_parts (swept && done) counted three.0 in
    let first = and_parts swept done both.0 in
    record {
      swept = subst (λ (ps : List Shape). sweep_test r c 0 (swept_by r c) ps ≡ true) (sym (shapes-few r c)) first.0;
      done = first.1;
      counted = ap length (shapes-few r c) ∙ eqb-true (length (few_shapes r c)) size.count both.1;
      fits = subst (λ (ps : List Shape). list_all (fits_test r c) ps ≡ true) (sym (shapes-few r c)) three.1;
      sides = four.1;
    }

-- A size that stands in the table passes its test.
pub passes_at_row : (rows columns : ℕ) (s : SidesRow) → row_with_sides rows columns ≡ Some s → PassesTest s
passes_at_row rows columns s row = passes_test s
    (at_found (λ r. size_test r ≡ true) (λ r. nat_eq r.rows rows && nat_eq r.columns columns) sides_table s
    (recursion_from_All (λ r. size_test r ≡ true) sides_table (AllPass-from_list_all size_test sides_table tested)) row)

-- Each size passes its test.
all_pass : All PassesTest sides_table
all_pass =
    All-weaker (λ (size : SidesRow). size_test size ≡ true) PassesTest passes_test sides_table
    (AllPass-from_list_all size_test sides_table tested)

-- The sweep of a size places the shapes of the closed form.
swept_places : (size : SidesRow) → PassesTest size → sweep size.rows size.columns ≡ shapes size.rows size.columns
unfolding sweep_within
swept_places size h =
    sweep_places size.rows size.columns (swept_by size.rows size.columns) (shapes size.rows size.columns) h.swept

-- In the mapping matrix of each size, each cell outside the fixed square holds exactly one bit.
pub each_size_once : All (λ size. EachCellOnce size.rows size.columns) sides_table
each_size_once = All-weaker PassesTest (λ size. EachCellOnce size.rows size.columns)
    (λ size h. each_cell_once size.rows size.columns
    (fills_all size.rows size.columns 0 (swept_by size.rows size.columns) (shapes size.rows size.columns) h.swept))
    sides_table all_pass

-- Each size has as many shapes as codewords.
pub each_size_counted : All (λ size. length (shapes size.rows size.columns) ≡ size.count) sides_table
each_size_counted =
    All-weaker PassesTest (λ size. length (shapes size.rows size.columns) ≡ size.count) (λ size h. h.counted)
    sides_table all_pass

-- The sweep of each size places the shapes of the closed form, and ends.
pub each_size_swept : All (λ size. Sweeps size.rows size.columns (shapes size.rows size.columns)) sides_table
each_size_swept =
    All-weaker PassesTest (λ size. Sweeps size.rows size.columns (shapes size.rows size.columns))
    (λ size h. record { places = swept_places size h; ends = λ more. sweep-more size.rows size.columns more h.done })
    sides_table all_pass

-- In a mapping matrix whose sides stand in the table, each cell outside the fixed square holds exactly one bit.
pub once_at_sides : (rows columns count : ℕ) → row_with_sides rows columns ≡ Some (sides_of rows columns count) →
    EachCellOnce rows columns
once_at_sides rows columns count row =
    each_cell_once rows columns (fills_all rows columns 0 (swept_by rows columns) (shapes rows columns)
    (passes_at_row rows columns (sides_of rows columns count) row).swept)

-- A mapping matrix whose sides stand in the table has as many shapes as codewords.
pub count_at_sides : (rows columns count : ℕ) → row_with_sides rows columns ≡ Some (sides_of rows columns count) →
    length (shapes rows columns) ≡ count
count_at_sides rows columns count row = (passes_at_row rows columns (sides_of rows columns count) row).counted

-- The sweep of a mapping matrix whose sides stand in the table places the shapes of the closed form, and ends.
pub swept_at_sides : (rows columns count : ℕ) → row_with_sides rows columns ≡ Some (sides_of rows columns count) →
    Sweeps rows columns (shapes rows columns)
swept_at_sides rows columns count row =
    let h = passes_at_row rows columns (sides_of rows columns count) row in
    record { places = swept_places (sides_of rows columns count) h; ends = λ more. sweep-more rows columns more h.done }
