-- Counts of the cells of a square.
use Rattle.dm_symbol.proofs.Names.{◌≡◌, ℕ, zero, suc, ◌+◌, ◌<◌, ◌≤◌, Bool, true, false, not, ◌&&◌, cond, eqb, List}
use Rattle.dm_symbol.proofs.Names.{get_or, inl, inr, refl, sym, subst, arith, range_with_len, sum_by, count_by}
use Rattle.dm_symbol.proofs.Names.{sum_by-cons, cases_eq, eqb-true, eq-eqb, and_parts, and_from, differs_same}
use Rattle.dm_symbol.proofs.Names.{differs_le}
use Rattle.std.proofs.lemmas.Bool.{cases_Bool, cond-true, cond-false, and_right, not_from_false, not_from_true}
use Rattle.dm_code.specs.Codeword.{differing}
use Rattle.dm_layout.proofs.Exported.{summands_zero}

-- A sum of larger terms is larger.
pub sum_grows : (f g : ℕ → ℕ) (a n : ℕ) → ((i : ℕ) → a ≤ i → i < a + n → f i ≤ g i)
    → sum_by f (range_with_len a n) ≤ sum_by g (range_with_len a n)
sum_grows f g a zero h = omega arith
sum_grows f g a (suc n) h =
    omega (
      arith,
      h a (omega arith) (omega arith),
      sum_grows f g (a + 1) n (λ i k l. h i (omega arith) (omega arith)),
      sum_by-cons f a (range_with_len (a + 1) n),
      sum_by-cons g a (range_with_len (a + 1) n),
    )

-- If one of the terms is larger by one, the sum is larger by one.
pub sum_grows_at : (f g : ℕ → ℕ) (a n r : ℕ) → ((i : ℕ) → a ≤ i → i < a + n → f i ≤ g i) → a ≤ r → r < a + n
    → f r + 1 ≤ g r
    → sum_by f (range_with_len a n) + 1 ≤ sum_by g (range_with_len a n)
sum_grows_at f g a zero r h low high more = absurd (omega (arith, low, high))
sum_grows_at f g a (suc n) r h low high more =
    let tail_f = sum_by-cons f a (range_with_len (a + 1) n) in
    let tail_g = sum_by-cons g a (range_with_len (a + 1) n) in
    elim (cases_eq a r) [
      | inl e ↦
          let here : f a + 1 ≤ g a = subst (λ i. f i + 1 ≤ g i) (sym e) more in
          omega (arith, here, sum_grows f g (a + 1) n (λ i k l. h i (omega arith) (omega arith)), tail_f, tail_g)
      | inr other ↦
          omega (
            arith,
            h a (omega arith) (omega arith),
            tail_f,
            tail_g,
            sum_grows_at f g (a + 1) n r (λ i k l. h i (omega arith) (omega arith)) (omega (arith, low, other))
                (omega (arith, high)) more,
          )
    ]

-- A cell counts 1 if it passes, and else 0.
counted : Bool → ℕ
counted b = cond b 1 0

-- A test counts at least as much as one that implies it.
counted_grows : (p q : Bool) → (p ≡ true → q ≡ true) → cond {A = ℕ} p 1 0 ≤ cond q 1 0
counted_grows true q h = omega (arith, cond-true {A = ℕ} q 1 0 (h refl))
counted_grows false q h = omega arith

-- This many cells of a square of n rows and n columns pass a test.
abbrev pub count_cells : ℕ → (ℕ → ℕ → Bool) → ℕ
count_cells n test = sum_by (λ row. count_by (test row) (range_with_len 0 n)) (range_with_len 0 n)

-- At least as many cells pass a weaker test.
pub cells_grow : (n : ℕ) (p q : ℕ → ℕ → Bool) → ((r c : ℕ) → r < n → c < n → p r c ≡ true → q r c ≡ true)
    → count_cells n p ≤ count_cells n q
cells_grow n p q h =
    sum_grows (λ r. count_by (p r) (range_with_len 0 n)) (λ r. count_by (q r) (range_with_len 0 n)) 0 n (λ r low high.
    sum_grows (λ c. cond (p r c) 1 0) (λ c. cond (q r c) 1 0) 0 n
    (λ c left right. counted_grows (p r c) (q r c) (h r c (omega (arith, high)) (omega (arith, right)))))

-- If some cell passes only the weaker of two tests, at least one cell more passes that.
pub cells_grow_at : (n : ℕ) (p q : ℕ → ℕ → Bool) (x y : ℕ) → ((r c : ℕ) → r < n → c < n → p r c ≡ true → q r c ≡ true)
    → x < n → y < n → p x y ≡ false → q x y ≡ true → count_cells n p + 1 ≤ count_cells n q
cells_grow_at n p q x y h hx hy left_out kept =
    sum_grows_at (λ r. count_by (p r) (range_with_len 0 n)) (λ r. count_by (q r) (range_with_len 0 n)) 0 n x
    (λ r low high. sum_grows (λ c. cond (p r c) 1 0) (λ c. cond (q r c) 1 0) 0 n
    (λ c left right. counted_grows (p r c) (q r c) (h r c (omega (arith, high)) (omega (arith, right)))))
    (omega arith) (omega (arith, hx))
    (sum_grows_at (λ c. cond (p x c) 1 0) (λ c. cond (q x c) 1 0) 0 n y
    (λ c left right. counted_grows (p x c) (q x c) (h x c hx (omega (arith, right))))
    (omega arith) (omega (arith, hy))
    (omega (arith, cond-false {A = ℕ} (p x y) 1 0 left_out, cond-true {A = ℕ} (q x y) 1 0 kept)))

-- A test that no cell passes fails everywhere.
pub none_pass : (n : ℕ) (p : ℕ → ℕ → Bool) (r c : ℕ) → count_cells n p ≡ 0 → r < n → c < n → p r c ≡ false
none_pass n p r c e hr hc =
    let row : count_by (p r) (range_with_len 0 n)
    ≡ 0 = summands_zero (λ r. count_by (p r) (range_with_len 0 n)) n r e hr in
    let cell : cond (p r c) 1 0 ≡ 0 = summands_zero (λ c. cond (p r c) 1 0) n c row hc in
    elim (cases_Bool (p r c)) [ inl t ↦ absurd (omega (arith, cell, cond-true {A = ℕ} (p r c) 1 0 t)) | inr f ↦ f ]

-- A cell of the square passes the test and belongs to a place.
pub record IsWitness (n : ℕ) (test : ℕ → ℕ → Bool) (Belongs : ℕ → ℕ → ℕ → Type 0) (i : ℕ) : Type 0 where
  pub row : ℕ
  pub column : ℕ
  pub row_in : row < n
  pub column_in : column < n
  pub passes : test row column ≡ true
  pub belongs : Belongs i row column

-- The test is as before, but one cell doesn't pass it.
abbrev without : (ℕ → ℕ → Bool) → ℕ → ℕ → ℕ → ℕ → Bool
without test x y r c = test r c && not (eqb r x && eqb c y)

-- Another cell that passes still passes.
without_keeps : (test : ℕ → ℕ → Bool) (x y r c : ℕ) → test r c ≡ true → (r ≡ x → c ≡ y → ⊥) → without test x y r c
    ≡ true
without_keeps test x y r c t other =
    elim (cases_Bool (eqb r x && eqb c y)) [
      | inl e ↦ let both = and_parts (eqb r x) (eqb c y) e in absurd (other (eqb-true r x both.0) (eqb-true c y both.1))
      | inr e ↦ and_from (test r c) (not (eqb r x && eqb c y)) t (not_from_false (eqb r x && eqb c y) e)
    ]

-- The cell itself doesn't pass any more.
without_itself : (test : ℕ → ℕ → Bool) (x y : ℕ) → without test x y x y ≡ false
without_itself test x y =
    and_right (test x y) (not (eqb x x && eqb y y))
    (not_from_true (eqb x x && eqb y y) (and_from (eqb x x) (eqb y y) (eq-eqb x x refl) (eq-eqb y y refl)))

-- Where each of the first k places at which two words differ has a cell that passes, and a cell belongs to one place at
-- most, the
-- words differ in at most as many of these places as cells pass.
pub differing_below_cells : (n : ℕ) (Belongs : ℕ → ℕ → ℕ → Type 0) (u v : List ℕ) (k : ℕ) (test : ℕ → ℕ → Bool)
    → ((i j r c : ℕ) → i < k → j < k → Belongs i r c → Belongs j r c → i ≡ j)
    → ((i : ℕ) → i < k → (get_or u i 0 ≡ get_or v i 0 → ⊥) → IsWitness n test Belongs i)
    → differing u v k ≤ count_cells n test
unfolding differing
differing_below_cells n Belongs u v zero test one witness = omega arith
differing_below_cells n Belongs u v (suc k) test one witness =
    elim (cases_eq (get_or u k 0) (get_or v k 0)) [
      | inl e ↦ omega (
        arith,
        differs_same (get_or u k 0) (get_or v k 0) e,
        differing_below_cells n Belongs u v k test (λ i j r c hi hj. one i j r c (omega arith) (omega arith))
            (λ i hi. witness i (omega arith)),
      )
      | inr other ↦
          let w = witness k (omega arith) other in
          let fewer =
          differing_below_cells n Belongs u v k (without test w.row w.column)
          (λ i j r c hi hj. one i j r c (omega arith) (omega arith)) (λ i hi differ.
          let z = witness i (omega arith) differ in
          record {
            row = z.row;
            column = z.column;
            row_in = z.row_in;
            column_in = z.column_in;
            belongs = z.belongs;
            passes = without_keeps test w.row w.column z.row z.column z.passes (λ er ec.
                let here : Belongs i w.row w.column =
                subst (λ c. Belongs i w.row c) ec (subst (λ r. Belongs i r z.column) er z.belongs) in
                let same : i ≡ k = one i k w.row w.column (omega arith) (omega arith) here w.belongs in
                omega (arith, same, hi));
          }) in
          let less =
          cells_grow_at n (without test w.row w.column) test w.row w.column
          (λ r c hr hc t. (and_parts (test r c) (not (eqb r w.row && eqb c w.column)) t).0)
          w.row_in w.column_in (without_itself test w.row w.column) w.passes in
          omega (arith, fewer, less, differs_le (get_or u k 0) (get_or v k 0))
    ]
