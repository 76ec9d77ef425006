-- What the test of the sweep says of the cells: those of the shapes lie in the matrix, no two of them are the same, and
-- together they are those outside the fixed square.
use Rattle.std.proofs.lemmas.Bool.Decides.{nat_tests}
use Rattle.std.proofs.Common.{◌≡◌, ◌≢◌, ◌⊎◌, inl, inr, ℕ, zero, suc, ◌+◌, ◌-◌, ◌*◌, ◌/◌, ◌%◌, ◌^◌, ◌<◌, Bool, true}
use Rattle.std.proofs.Common.{false, not, ◌&&◌, nat_eq, nat_lt, List, [], ◌∷◌, ◌++◌, length, get_or, refl, sym}
use Rattle.std.proofs.Common.{◌∙◌, ap, subst, arith}
use Rattle.std.specs.Prelude.{max}
use Rattle.std.specs.Bool.{beq}
use Rattle.std.specs.Int.{bit_at}
use Rattle.std.specs.List.{list_all, range_with_len}
use Prim.Native.Nat.{bit_and as native_and, bit_and-bitwise}
use lib.Bits.{bit_and, or_disjoint}
use Rattle.std.proofs.lemmas.Bool.{and_parts, eqb-true, eqb-false, ltb-true, false≢true}
use Rattle.std.proofs.Math.Nat.{mul_comm}
use Rattle.std.proofs.lemmas.Nat.{pow_pos, mul-add-lt, div-mul-add, mod-mul-add}
use Rattle.std.proofs.lemmas.Nat.Bits.{and_pow, bit_at_or, bit_at-lt, bit_at-pow_same, bit_at-pow_other, bit_at_ones}
use Rattle.dm_place.specs.declared.shape.Cell.{Cell}
use Rattle.dm_place.specs.declared.shape.Shape.{Shape}
use Rattle.dm_place.specs.Placement.{cells_of}
use Rattle.dm_place.proofs.SameShapes.{same_shape, shape_equal}
use Rattle.dm_place.specs.Border.{is_fixed}
use Rattle.std.specs.Cmp.{booleans_Decides}
use Rattle.dm_place.proofs.Ranges.{all_below}
use Rattle.dm_place.proofs.SweepTest.{cells_of_all, is_free, number_of, with_cell, is_new, with_new, fill_new}
use Rattle.dm_place.proofs.SweepTest.{anchor_inside, left_out, places_next, all_filled, sweep_test}

-- ---- one more cell

-- A binary digit times a positive number is 0 exactly if the digit is.
digit_times : (b m : ℕ) → b < 2 → 0 < m → nat_eq (b * m) 0 ≡ nat_eq b 0
digit_times x m l p = grind (arith, nat_tests)

-- The native `bit_and` gives what that of the contracts does.
same_and : (a b : ℕ) → native_and a b ≡ bit_and a b
same_and zero b = bit_and-bitwise zero b
same_and (suc a) b = refl

-- Before the first cell is filled, each is free.
pub free_first : (k : ℕ) → is_free 0 k ≡ true
free_first k = ap (λ (j : ℕ). nat_eq j 0) (same_and 0 (2 ^ k))

-- A cell isn't filled exactly if its bit is 0.
pub free_bit : (t k : ℕ) → is_free t k ≡ nat_eq (bit_at t k) 0
free_bit t k =
    rw (same_and t (2 ^ k), and_pow t k, digit_times (bit_at t k) (2 ^ k) (bit_at-lt t k) (pow_pos k))

-- The larger of two binary digits is 0 exactly if both are.
max_free : (x y : ℕ) → x < 2 → y < 2 → nat_eq (max x y) 0 ≡ (nat_eq x 0 && nat_eq y 0)
max_free x y lx ly = grind (arith, nat_tests)

-- A power of 2 has a single bit.
single_bit : (i k : ℕ) → nat_eq (bit_at (2 ^ i) k) 0 ≡ not (nat_eq k i)
single_bit i k = grind (arith, nat_tests, eqb-true, bit_at-pow_same, bit_at-pow_other, eqb-false)

-- With one more cell filled, a cell is free that was, but for that cell.
pub free_after : (rows columns t k : ℕ) (x : Cell) →
    is_free (with_cell rows columns t x) k ≡ (is_free t k && not (nat_eq k (number_of rows columns x)))
free_after rows columns t k x =
    grind (arith, nat_tests, number_of, free_bit, bit_at_or, max_free, bit_at-lt, is_free, single_bit)

-- A cell that is free with one more cell filled was free before.
pub free_before : (rows columns t k : ℕ) (x : Cell) → is_free (with_cell rows columns t x) k ≡ true → is_free t k ≡ true
free_before rows columns t k x h = (and_parts (is_free t k) _ (sym (free_after rows columns t k x) ∙ h)).0

-- A number equals itself, as the test of equality sees it.
same_number : (k : ℕ) → nat_eq k k ≡ true
same_number k = grind (arith, nat_tests, eqb-false)

-- A test and a test that fails fail together.
and_none : (b : Bool) → (b && false) ≡ false
and_none true = refl
and_none false = refl

-- A cell that is filled isn't free.
filled_now : (rows columns t : ℕ) (x : Cell) → is_free (with_cell rows columns t x) (number_of rows columns x) ≡ false
filled_now rows columns t x =
    let k : ℕ = number_of rows columns x in
    free_after rows columns t k x ∙ ap (λ (b : Bool). is_free t k && not b) (same_number k) ∙ and_none (is_free t k)

-- A cell that isn't free stays so with one more cell filled.
still_filled : (rows columns t k : ℕ) (x : Cell) → is_free t k ≡ false → is_free (with_cell rows columns t x) k ≡ false
still_filled rows columns t k x h =
    free_after rows columns t k x ∙ ap (λ (b : Bool). b && not (nat_eq k (number_of rows columns x))) h

-- ---- cells that are filled one after the other

-- The number with these cells filled too.
abbrev pub filled_with : ℕ → ℕ → ℕ → List Cell → ℕ
filled_with rows columns t [] = t
filled_with rows columns t (x ∷ rest) = filled_with rows columns (with_cell rows columns t x) rest

-- Each of these cells is new when those before it are filled.
abbrev pub AreNew : ℕ → ℕ → ℕ → List Cell → Type 0
AreNew rows columns t [] = Unit {0}
AreNew rows columns t (x ∷ rest) =
    (is_new rows columns t x ≡ true) × AreNew rows columns (with_cell rows columns t x) rest

-- A new cell is filled by a sum.
same_filled : (rows columns t : ℕ) (x : Cell) → is_new rows columns t x ≡ true →
    with_new rows columns t x ≡ with_cell rows columns t x
same_filled rows columns t x h =
    let free = (and_parts (nat_lt x.row rows && nat_lt x.column columns) (is_free t (number_of rows columns x)) h).1 in
    sym (or_disjoint t (2 ^ number_of rows columns x) (sym (same_and t (2 ^ number_of rows columns x))
    ∙ eqb-true _ 0 free))

-- Where cells pass their test, they are new, and what comes next passes its own.
pub new_cells : (rows columns t : ℕ) (xs : List Cell) (next : ℕ → Bool) → fill_new rows columns t xs next ≡ true →
    AreNew rows columns t xs × (next (filled_with rows columns t xs) ≡ true)
new_cells rows columns t [] next h = (tt, h)
new_cells rows columns t (x ∷ xs) next h =
    by_test (new_cells rows columns (with_new rows columns t x) xs next) (is_new rows columns t x) refl h
  where
    Passed : ℕ → Type 0
    Passed u = AreNew rows columns u xs × (next (filled_with rows columns u xs) ≡ true)

    by_test : (fill_new rows columns (with_new rows columns t x) xs next ≡ true → Passed (with_new rows columns t x)) →
        (b : Bool) → is_new rows columns t x ≡ b →
        elim b as (λ _. Bool) [ true ↦ fill_new rows columns (with_new rows columns t x) xs next | false ↦ false ] ≡
        true → AreNew rows columns t (x ∷ xs) × (next (filled_with rows columns t (x ∷ xs)) ≡ true)
    by_test others true e g = let rest = subst Passed (same_filled rows columns t x e) (others g) in
        ((e, rest.0), rest.1)
    by_test others false e g = absurd (false≢true g)

-- Two lists of cells are filled one after the other.
pub filled_with-append : (rows columns t : ℕ) (xs ys : List Cell) →
    filled_with rows columns t (xs ++ ys) ≡ filled_with rows columns (filled_with rows columns t xs) ys
filled_with-append rows columns t [] ys = refl
filled_with-append rows columns t (x ∷ xs) ys = filled_with-append rows columns (with_cell rows columns t x) xs ys

-- Where the cells of a list are new, and then those of another, all are.
pub AreNew-append : (rows columns t : ℕ) (xs ys : List Cell) → AreNew rows columns t xs →
    AreNew rows columns (filled_with rows columns t xs) ys → AreNew rows columns t (xs ++ ys)
AreNew-append rows columns t [] ys h g = g
AreNew-append rows columns t (x ∷ xs) ys h g =
    (h.0, AreNew-append rows columns (with_cell rows columns t x) xs ys h.1 g)

-- The cell lies in the matrix.
pub record IsInside (rows columns : ℕ) (x : Cell) : Type 0 where
  pub row : x.row < rows
  pub column : x.column < columns

-- A new cell lies in the matrix and is free.
pub is_new-parts : (rows columns t : ℕ) (x : Cell) → is_new rows columns t x ≡ true →
    IsInside rows columns x × (is_free t (number_of rows columns x) ≡ true)
is_new-parts rows columns t x h =
    let both = and_parts (nat_lt x.row rows && nat_lt x.column columns) (is_free t (number_of rows columns x)) h in
    let here = and_parts (nat_lt x.row rows) (nat_lt x.column columns) both.0 in
    (record { row = ltb-true x.row rows here.0; column = ltb-true x.column columns here.1 }, both.1)

-- Each of the new cells lies in the matrix and was free at first.
pub new_at : (rows columns t : ℕ) (xs : List Cell) (i : ℕ) (d : Cell) → AreNew rows columns t xs → i < length xs →
    IsInside rows columns (get_or xs i d) × (is_free t (number_of rows columns (get_or xs i d)) ≡ true)
new_at rows columns t [] i d h l = absurd (omega arith)
new_at rows columns t (x ∷ xs) zero d h l = is_new-parts rows columns t x h.0
new_at rows columns t (x ∷ xs) (suc i) d h l =
    let rest = new_at rows columns (with_cell rows columns t x) xs i d h.1 (omega arith) in
    (rest.0, free_before rows columns t (number_of rows columns (get_or xs i d)) x rest.1)

-- Once filled, a cell stays so.
stays_filled : (rows columns t k : ℕ) (xs : List Cell) → is_free t k ≡ false →
    is_free (filled_with rows columns t xs) k ≡ false
stays_filled rows columns t k [] h = h
stays_filled rows columns t k (x ∷ xs) h =
    stays_filled rows columns (with_cell rows columns t x) k xs (still_filled rows columns t k x h)

-- In the end each of the cells is filled.
pub filled_at : (rows columns t : ℕ) (xs : List Cell) (i : ℕ) (d : Cell) → i < length xs →
    is_free (filled_with rows columns t xs) (number_of rows columns (get_or xs i d)) ≡ false
filled_at rows columns t [] i d l = absurd (omega arith)
filled_at rows columns t (x ∷ xs) zero d l =
    stays_filled rows columns (with_cell rows columns t x) (number_of rows columns x) xs (filled_now rows columns t x)
filled_at rows columns t (x ∷ xs) (suc i) d l = filled_at rows columns (with_cell rows columns t x) xs i d (omega arith)

-- One of the cells has this number.
abbrev pub IsAmong : ℕ → ℕ → ℕ → List Cell → Cell → Type 0
IsAmong rows columns k xs d = (i : ℕ) × (i < length xs) × (number_of rows columns (get_or xs i d) ≡ k)

-- A cell that was free and is filled in the end is one of the cells.
pub among : (rows columns t k : ℕ) (xs : List Cell) (d : Cell) → is_free t k ≡ true →
    is_free (filled_with rows columns t xs) k ≡ false → IsAmong rows columns k xs d
among rows columns t k [] d f h = absurd (false≢true (sym h ∙ f))
among rows columns t k (x ∷ xs) d f h =
    by_test (λ g. among rows columns (with_cell rows columns t x) k xs d g h) (nat_eq k (number_of rows columns x)) refl
  where
    by_test : (is_free (with_cell rows columns t x) k ≡ true → IsAmong rows columns k xs d) → (b : Bool) →
        nat_eq k (number_of rows columns x) ≡ b → IsAmong rows columns k (x ∷ xs) d
    by_test others true e = (0, omega arith, sym (eqb-true k (number_of rows columns x) e))
    by_test others false e =
        let g : is_free (with_cell rows columns t x) k ≡ true =
        rw (free_after, e, f) in
        let rest : IsAmong rows columns k xs d = others g in
        (suc rest.0, omega (arith, rest.1), rest.2)

-- The first of the new cells isn't among the others.
first_apart : (rows columns t : ℕ) (x : Cell) (xs : List Cell) (i : ℕ) (d : Cell) → AreNew rows columns t (x ∷ xs) →
    i < length xs → number_of rows columns x ≢ number_of rows columns (get_or xs i d)
first_apart rows columns t x xs i d h l e =
    false≢true (cc (filled_now rows columns t x, e, (new_at rows columns (with_cell rows columns t x) xs i d h.1 l).1))

-- No two of the new cells are the same.
pub new_apart : (rows columns t : ℕ) (xs : List Cell) (i j : ℕ) (d : Cell) → AreNew rows columns t xs → i < length xs →
    j < length xs → number_of rows columns (get_or xs i d) ≡ number_of rows columns (get_or xs j d) → i ≡ j
new_apart rows columns t [] i j d h li lj e = absurd (omega arith)
new_apart rows columns t (x ∷ xs) zero zero d h li lj e = refl
new_apart rows columns t (x ∷ xs) zero (suc j) d h li lj e =
    absurd (first_apart rows columns t x xs j d h (omega arith) e)
new_apart rows columns t (x ∷ xs) (suc i) zero d h li lj e =
    absurd (first_apart rows columns t x xs i d h (omega arith) (sym e))
new_apart rows columns t (x ∷ xs) (suc i) (suc j) d h li lj e =
    ap suc (new_apart rows columns (with_cell rows columns t x) xs i j d h.1 (omega arith) (omega arith) e)

-- ---- the shapes

-- The sweep comes by a shape that it leaves out.
pub record LeavesOut (rows columns t : ℕ) (s : Shape) (rest ps : List Shape) : Type 0 where
  pub out : left_out rows columns t s ≡ true
  pub go_on : sweep_test rows columns t rest ps ≡ true

-- The sweep comes by a shape that it places.
pub record Places (rows columns t : ℕ) (s : Shape) (rest ps qs : List Shape) : Type 0 where
  pub here : left_out rows columns t s ≡ false
  pub next : ps ≡ s ∷ qs
  pub new : AreNew rows columns t (cells_of rows columns s)
  pub go_on : sweep_test rows columns (filled_with rows columns t (cells_of rows columns s)) rest qs ≡ true

-- At each shape that passes the test, the sweep leaves it out or places it.
pub record Comes (rows columns t : ℕ) (s : Shape) (rest ps : List Shape) : Type 0 where
  pub inside : anchor_inside rows columns s ≡ true
  pub either : LeavesOut rows columns t s rest ps ⊎ ((qs : List Shape) × Places rows columns t s rest ps qs)

placed_next : (rows columns t : ℕ) (s : Shape) (rest ps : List Shape) → left_out rows columns t s ≡ false →
    places_next rows columns t s ps (λ u qs. sweep_test rows columns u rest qs) ≡ true →
    (qs : List Shape) × Places rows columns t s rest ps qs
placed_next rows columns t s rest [] o h = absurd (false≢true h)
placed_next rows columns t s rest (p ∷ qs) o h = by_test (same_shape s p) refl h
  where
    by_test : (b : Bool) → same_shape s p ≡ b → elim b as (λ _. Bool) [
      | true ↦ fill_new rows columns t (cells_of rows columns s) (λ u. sweep_test rows columns u rest qs)
      | false ↦
          false
    ] ≡ true →
        (others : List Shape) × Places rows columns t s rest (p ∷ qs) others
    by_test true e g =
        let new = new_cells rows columns t (cells_of rows columns s) (λ u. sweep_test rows columns u rest qs) g in
        let placed : Places rows columns t s rest (p ∷ qs) qs =
        record {
          here = o;
          next = ap (λ (q : Shape). q ∷ qs) (sym (shape_equal s p e));
          new = new.0;
          go_on =
              new.1;
        } in
        (qs, placed)
    by_test false e g = absurd (false≢true g)

pub comes : (rows columns t : ℕ) (s : Shape) (rest ps : List Shape) → sweep_test rows columns t (s ∷ rest) ps ≡ true →
    Comes rows columns t s rest ps
unfolding sweep_test
comes rows columns t s rest ps h = by_inside (anchor_inside rows columns s) refl h
  where
    by_left : (b : Bool) → left_out rows columns t s ≡ b →
        elim b as (λ _. Bool) [
          | true ↦ sweep_test rows columns t rest ps
          | false ↦ places_next rows columns t s ps
              (λ u qs. sweep_test rows columns u rest qs)
        ] ≡ true →
        LeavesOut rows columns t s rest ps ⊎ ((qs : List Shape) × Places rows columns t s rest ps qs)
    by_left true e g = inl (record { out = e; go_on = g })
    by_left false e g = inr (placed_next rows columns t s rest ps e g)

    by_inside : (b : Bool) → anchor_inside rows columns s ≡ b → elim b as (λ _. Bool) [
      | true ↦ elim (left_out rows columns t s) as (λ _. Bool) [
        | true ↦ sweep_test rows columns t rest ps
        | false ↦ places_next rows columns t s ps
            (λ u qs. sweep_test rows columns u rest qs)
      ]
      | false ↦ false
    ] ≡ true → Comes rows columns t s rest ps
    by_inside true e g = record { inside = e; either = by_left (left_out rows columns t s) refl g }
    by_inside false e g = absurd (false≢true g)

-- The cells of these shapes are new, and in the end the cells outside the fixed square are filled.
pub record FillsAll (rows columns t : ℕ) (ps : List Shape) : Type 0 where
  pub new : AreNew rows columns t (cells_of_all rows columns ps)
  pub all : all_filled rows columns (filled_with rows columns t (cells_of_all rows columns ps)) ≡ true

-- Where the test of the sweep passes, the cells of the shapes that it places are new, and fill the matrix.
pub fills_all : (rows columns t : ℕ) (ss ps : List Shape) → sweep_test rows columns t ss ps ≡ true →
    FillsAll rows columns t ps
unfolding sweep_test
fills_all rows columns t [] [] h = record { new = tt; all = h }
fills_all rows columns t [] (p ∷ ps) h = absurd (false≢true h)
fills_all rows columns t (s ∷ rest) ps h =
    by_either (λ u qs. fills_all rows columns u rest qs) (comes rows columns t s rest ps h).either
  where
    by_either : ((u : ℕ) (qs : List Shape) → sweep_test rows columns u rest qs ≡ true → FillsAll rows columns u qs) →
        LeavesOut rows columns t s rest ps ⊎ ((qs : List Shape) × Places rows columns t s rest ps qs) →
        FillsAll rows columns t ps
    by_either go (inl out) = go t ps out.go_on
    by_either go (inr (qs, placed)) =
        let cells : List Cell = cells_of rows columns s in
        let others : FillsAll rows columns (filled_with rows columns t cells) qs =
        go (filled_with rows columns t cells) qs placed.go_on in
        subst (FillsAll rows columns t) (sym placed.next) (record {
          new = AreNew-append rows columns t cells (cells_of_all rows columns qs) placed.new others.new;
          all =
              subst (λ (u : ℕ). all_filled rows columns u ≡ true)
              (sym (filled_with-append rows columns t cells (cells_of_all rows columns qs))) others.all;
        })

-- Where all cells outside the fixed square are filled and no others, a cell is free exactly if it belongs to the fixed
-- square.
pub fixed_free : (rows columns t r c : ℕ) → r < rows → c < columns → all_filled rows columns t ≡ true →
    is_free t (r * columns + c) ≡ is_fixed rows columns r c
unfolding all_filled
fixed_free rows columns t r c lr lc = by_size ((nat_eq (rows % 4) 2 && nat_eq (columns % 4) 2)) refl
  where
    k : ℕ
    k = r * columns + c

    within : k < rows * columns
    within = let l = mul-add-lt r columns c rows lr lc in let e = mul_comm columns rows in omega (arith, l, e)

    here : ℕ → Bool
    here j = beq (is_free t j) (is_fixed rows columns (j / columns) (j % columns))

    by_size : (b : Bool) → (nat_eq (rows % 4) 2 && nat_eq (columns % 4) 2) ≡ b →
        elim b as (λ _. Bool) [
          | true ↦ list_all here (range_with_len 0 (rows * columns))
          | false ↦ nat_eq t
              (2 ^ (rows * columns) - 1)
        ] ≡ true → is_free t k ≡ is_fixed rows columns r c
    by_size true e h =
        (booleans_Decides _ _).0 (all_below here (rows * columns) k h within)
        ∙ ap (λ (j : ℕ). is_fixed rows columns j (k % columns)) (div-mul-add r columns c lc)
        ∙ ap (is_fixed rows columns r) (mod-mul-add r columns c lc)
    by_size false e h =
        rw (free_bit t k, eqb-true t (2 ^ (rows * columns) - 1) h, bit_at_ones (rows * columns) k within, e)
