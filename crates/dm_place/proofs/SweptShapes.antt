-- What the test of the sweep says of the sweep: it places the shapes that the test gives.
use Rattle.std.proofs.lemmas.Bool.Decides.{nat_tests}
use Rattle.std.proofs.Common.{◌≡◌, ◌⊎◌, ℕ, ◌+◌, ◌*◌, ◌/◌, ◌<◌, Bool, true, false, not, ◌&&◌, nat_eq}
use Rattle.std.proofs.Common.{List, [], ◌∷◌, length, get_or, set, refl, sym, ◌∙◌, ap, arith, ◌||◌}
use Rattle.std.specs.List.{list_any}
use Rattle.std.proofs.lemmas.Bool.{eqb-true, eqb-false, false≢true}
use Rattle.std.proofs.lemmas.List.{get_or-set_same, get_or-set_other, get_or-replicate}
use Rattle.std.proofs.lemmas.Nat.{div-mul-add}
use Rattle.std.proofs.Math.ListN.{length-set, length-replicate}
use Rattle.dm_place.specs.declared.shape.Cell.{Cell}
use Rattle.dm_place.specs.declared.shape.Shape.{Shape}
use Rattle.dm_place.specs.Placement.{cells_of}
use Rattle.dm_place.specs.Sweep as sweeping
use Rattle.dm_place.proofs.Ranges.{same_tests}
use Rattle.dm_place.proofs.SweepTest.{is_free, number_of, with_cell, anchor_inside, left_out, sweep_test}
use Rattle.dm_place.proofs.SweptCells.{AreNew, IsInside, filled_with, free_first, free_after, is_new-parts, comes}
use Rattle.dm_place.proofs.SweptCells.{LeavesOut, Places}

-- ---- one number for a table

-- The number has the bits of the cells that are filled by this test.
abbrev Keeps : ℕ → ℕ → (ℕ → ℕ → Bool) → ℕ → Type 0
Keeps rows columns filled t = (r c : ℕ) → r < rows → c < columns → filled r c ≡ not (is_free t (r * columns + c))

-- In a row, cells are told apart by their columns.
same_column : (rows columns r c : ℕ) (x : Cell) → r ≡ x.row →
    nat_eq (r * columns + c) (number_of rows columns x) ≡ nat_eq c x.column
same_column rows columns r c x e = grind (arith, nat_tests, same_tests, number_of)

-- Cells of other rows are other cells.
other_row : (rows columns r c : ℕ) (x : Cell) → c < columns → IsInside rows columns x → nat_eq r x.row ≡ false →
    nat_eq (r * columns + c) (number_of rows columns x) ≡ false
other_row rows columns r c x l inside h = by_test (nat_eq (r * columns + c) (number_of rows columns x)) refl
  where
    by_test : (b : Bool) → nat_eq (r * columns + c) (number_of rows columns x) ≡ b → b ≡ false
    by_test true e =
        absurd (eqb-false r x.row h (sym (div-mul-add r columns c l)
        ∙ ap (λ (j : ℕ). j / columns) (eqb-true (r * columns + c) (number_of rows columns x) e)
        ∙ div-mul-add x.row columns x.column inside.column))
    by_test false e = refl

-- A cell is filled if it is the one that is filled now, or was filled before.
or_before : (f q : Bool) → not (f && not q) ≡ (q || not f)
or_before x y = grind (arith, nat_tests)

-- A cell of another row is filled if it was before.
and_true : (f : Bool) → not (f && true) ≡ not f
and_true true = refl
and_true false = refl

-- Where one more cell is filled in a table, and in its row it is added to those that were filled, the number keeps it
-- too.
keeps_more : (rows columns t : ℕ) (x : Cell) (filled after : ℕ → ℕ → Bool) → IsInside rows columns x →
    Keeps rows columns filled t → ((c : ℕ) → after x.row c ≡ (nat_eq c x.column || filled x.row c)) →
    ((r c : ℕ) → nat_eq r x.row ≡ false → after r c ≡ filled r c) →
    Keeps rows columns after (with_cell rows columns t x)
keeps_more rows columns t x filled after inside keeps same other r c lr lc = by_row (nat_eq r x.row) refl
  where
    k : ℕ
    k = r * columns + c

    by_row : (b : Bool) → nat_eq r x.row ≡ b → after r c ≡ not (is_free (with_cell rows columns t x) k)
    by_row true e =
        let er = eqb-true r x.row e in
        ap (λ (j : ℕ). after j c) er ∙ same c
        ∙ ap (λ (j : ℕ). nat_eq c x.column || filled j c) (sym er)
        ∙ ap (λ (b : Bool). nat_eq c x.column || b) (keeps r c lr lc)
        ∙ sym (or_before (is_free t k) (nat_eq c x.column))
        ∙ ap (λ (b : Bool). not (is_free t k && not b)) (sym (same_column rows columns r c x er))
        ∙ ap not (sym (free_after rows columns t k x))
    by_row false e =
        other r c e ∙ keeps r c lr lc ∙ sym (and_true (is_free t k))
        ∙ ap (λ (b : Bool). not (is_free t k && not b)) (sym (other_row rows columns r c x lc inside e))
        ∙ ap not (sym (free_after rows columns t k x))

-- A choice is its first part where the test passes, and its second where it fails.
first_choice : (b : Bool) (x y : List Shape) → b ≡ true → elim b as (λ _. List Shape) [ true ↦ x | false ↦ y ] ≡ x
first_choice true x y h = refl
first_choice false x y h = absurd (false≢true h)

second_choice : (b : Bool) (x y : List Shape) → b ≡ false → elim b as (λ _. List Shape) [ true ↦ x | false ↦ y ] ≡ y
second_choice true x y h = absurd (false≢true (sym h))
second_choice false x y h = refl

-- ---- the sweep

-- The number has the bits of the cells that are filled in this table of the sweep.
record SweepKeeps (rows columns : ℕ) (table : List (List ℕ)) (t : ℕ) : Type 0 where
  height : length table ≡ rows
  keeps : Keeps rows columns (sweeping.is_filled table) t

-- Before the sweep no cell is filled.
sweep_begins : (rows columns : ℕ) → SweepKeeps rows columns (sweeping.nothing_filled rows) 0
sweep_begins rows columns = record {
  height = length-replicate rows [];
  keeps =
      λ r c lr lc. rw (get_or-replicate, free_first);
}

-- The sweep fills one more cell.
sweep_more : (rows columns t : ℕ) (table : List (List ℕ)) (x : Cell) → IsInside rows columns x →
    SweepKeeps rows columns table t →
    SweepKeeps rows columns (set table x.row (x.column ∷ get_or table x.row [])) (with_cell rows columns t x)
sweep_more rows columns t table x inside kept =
    let new : List ℕ = x.column ∷ get_or table x.row [] in
    let l : x.row < length table = omega (arith, kept.height, inside.row) in
    record {
      height = length-set table x.row new ∙ kept.height;
      keeps =
          keeps_more rows columns t x (sweeping.is_filled table) (sweeping.is_filled (set table x.row new)) inside
          kept.keeps
          (λ c. ap (list_any (nat_eq c)) (get_or-set_same table x.row new [] l))
          (λ r c h. ap (list_any (nat_eq c)) (get_or-set_other table x.row r new [] (eqb-false r x.row h)));
    }

-- The sweep fills new cells.
sweep_fills : (rows columns t : ℕ) (table : List (List ℕ)) (xs : List Cell) → AreNew rows columns t xs →
    SweepKeeps rows columns table t → SweepKeeps rows columns (sweeping.fill table xs) (filled_with rows columns t xs)
sweep_fills rows columns t table [] new kept = kept
sweep_fills rows columns t table (x ∷ xs) new kept =
    sweep_fills rows columns (with_cell rows columns t x) (set table x.row (x.column ∷ get_or table x.row [])) xs new.1
    (sweep_more rows columns t table x (is_new-parts rows columns t x new.0).0 kept)

-- The sweep leaves out what the test leaves out.
sweep_out : (rows columns t : ℕ) (table : List (List ℕ)) (s : Shape) → SweepKeeps rows columns table t →
    anchor_inside rows columns s ≡ true → sweeping.is_left_out table s ≡ left_out rows columns t s
sweep_out rows columns t table x kept h = grind (arith, nat_tests)

-- Where the test passes, the sweep places the shapes of the test.
sweep_placed : (rows columns t : ℕ) (table : List (List ℕ)) (ss ps : List Shape) → SweepKeeps rows columns table t →
    sweep_test rows columns t ss ps ≡ true → sweeping.placed rows columns table ss ≡ ps
unfolding sweep_test sweeping.placed
sweep_placed rows columns t table [] [] kept h = refl
sweep_placed rows columns t table [] (p ∷ ps) kept h = absurd (false≢true h)
sweep_placed rows columns t table (s ∷ rest) ps kept h =
    let here = comes rows columns t s rest ps h in
    by_either (λ u new qs. sweep_placed rows columns u new rest qs) (sweep_out rows columns t table s kept here.inside)
    here.either
  where
    left : List Shape
    left = sweeping.placed rows columns table rest

    taken : List Shape
    taken = s ∷ sweeping.placed rows columns (sweeping.fill table (cells_of rows columns s)) rest

    by_either : ((u : ℕ) (new : List (List ℕ)) (qs : List Shape) → SweepKeeps rows columns new u →
        sweep_test rows columns u rest qs ≡ true → sweeping.placed rows columns new rest ≡ qs) →
        sweeping.is_left_out table s ≡ left_out rows columns t s →
        LeavesOut rows columns t s rest ps ⊎ ((qs : List Shape) × Places rows columns t s rest ps qs) →
        elim (sweeping.is_left_out table s) as (λ _. List Shape) [ true ↦ left | false ↦ taken ] ≡ ps
    by_either go e x = grind (arith, nat_tests, first_choice, left, taken, second_choice, filled_with, sweep_fills)

-- Where the test passes from the beginning, the sweep places its shapes.
pub sweep_places : (rows columns : ℕ) (ss ps : List Shape) → sweep_test rows columns 0 ss ps ≡ true →
    sweeping.placed rows columns (sweeping.nothing_filled rows) ss ≡ ps
sweep_places rows columns ss ps h =
    sweep_placed rows columns 0 (sweeping.nothing_filled rows) ss ps (sweep_begins rows columns) h
