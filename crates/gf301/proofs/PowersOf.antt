-- The powers of an element in lanes: the first ones, and then as many more.
use Rattle.std.proofs.Common.{◌≡◌, ℕ, zero, suc, ◌+◌, ◌-◌, ◌*◌, ◌<◌, ◌≤◌, List, ◌∷◌, length, get_or, map, take, drop}
use Rattle.std.proofs.Common.{replicate, refl, sym, ap, ◌∙◌, arith, bit_xor, true, cond, eqb, ltb, inl, inr}
use Rattle.std.proofs.lemmas.Bool.{eqb-true, cases_lt, lt-ltb, le-ltb}
use Rattle.std.proofs.lemmas.List.{get_or-map, length-map, ext_get_or, get_or_past, get_or_default, take-take}
use Rattle.std.proofs.lemmas.Simd.{length-zip2, length-chunk, get_or-zip2, get_or-chunk}
use lib.Bits.{xor_zero_l, xor_zero_r}
use lib.Lanes.{zip2, chunk}
use Rattle.gf301.specs.Field.{◌⊕◌, ◌⊗◌, raise}
use Rattle.gf301.specs.Polynomial.{values_from}
use Rattle.gf301.specs.declared.lanes.TheConstants.{BACK}
use Rattle.gf301.proofs.Additive.{all_below, all_below_at}
use Rattle.gf301.proofs.FieldLaws.{product_one_right, product_zero_right, raise_add}
use Rattle.gf301.proofs.PolyLaws.{length-values_from, get_or-values_from}

-- Where the lanes are taken from in a move by n lanes.
abbrev pub back : ℕ → List ℕ
back n = chunk (8 - n) 16 BACK

-- All 24 numbers are looked at.
back_test : all_below 24 (λ p. eqb (get_or BACK p 0) (cond (ltb p 8) 15 (p - 8))) ≡ true
unfolding all_below
back_test = refl

-- They are read from the part of the table that begins with the first of them.
pub back_read : (n : ℕ) → n ≤ 8 → take 16 (take (24 - (8 - n)) (drop (8 - n) BACK)) ≡ back n
back_read n h = take-take 16 (24 - (8 - n)) (drop (8 - n) BACK) (omega arith)

-- There are sixteen of them in a move by at most 8 lanes.
back_length : (n : ℕ) → n ≤ 8 → length (back n) ≡ 16
back_length n h = length-chunk (8 - n) 16 BACK (omega arith)

-- The number at a place of the table.
table_back : (p : ℕ) → p < 24 → get_or BACK p 0 ≡ cond (ltb p 8) 15 (p - 8)
table_back p h =
    eqb-true (get_or BACK p 0) (cond (ltb p 8) 15 (p - 8))
    (all_below_at 24 (λ p. eqb (get_or BACK p 0) (cond (ltb p 8) 15 (p - 8))) back_test p h)

-- The lowest n lanes take the last one.
back_low : (n i : ℕ) → n ≤ 8 → i < n → get_or (back n) i 0 ≡ 15
back_low n i h l =
    get_or-chunk (8 - n) 16 BACK i 0 (omega arith) ∙ table_back (8 - n + i) (omega arith)
    ∙ ap (λ b. cond b 15 (8 - n + i - 8)) (lt-ltb (8 - n + i) 8 (omega arith))

-- The others take the one that lies n lanes before them.
back_high : (n i : ℕ) → n ≤ 8 → n ≤ i → i < 16 → get_or (back n) i 0 ≡ i - n
back_high n i h l m =
    get_or-chunk (8 - n) 16 BACK i 0 m ∙ table_back (8 - n + i) (omega arith)
    ∙ ap (λ b. cond b 15 (8 - n + i - 8)) (le-ltb (8 - n + i) 8 (omega arith))
    ∙ (let q : 8 - n + i - 8 ≡ i - n = omega arith in q)

-- Each is a place below 16.
pub back_places : (n : ℕ) → n ≤ 8 → (k d : ℕ) → k < length (back n) → get_or (back n) k d < 16
back_places n h k d l =
    let lt : k < 16 = omega (arith, back_length n h) in
    elim (cases_lt k n) [
      | inl b ↦ omega (arith, get_or_default (back n) k d 0 l, back_low n k h b)
      | inr b ↦ omega (arith, get_or_default (back n) k d 0 l, back_high n k h b lt)
    ]

-- What the lanes hold after those that were moved and multiplied by c are added.
followed_at : (c n : ℕ) (v s : List ℕ) → n ≤ 8 → length v ≡ 16 → s ≡ map (λ x. c ⊗ x) (map (λ i. get_or v i 0) (back n))
    → (i : ℕ) → i < 16 → get_or (zip2 bit_xor v s) i 0 ≡ get_or v i 0 ⊕ c ⊗ get_or v (get_or (back n) i 0) 0
followed_at c n v s h long e i l =
    let bl = back_length n h in
    let ml : length (map (λ i. get_or v i 0) (back n)) ≡ 16 = length-map (back n) (λ i. get_or v i 0) ∙ bl in
    let sl : length s ≡ 16 = ap length e ∙ length-map (map (λ i. get_or v i 0) (back n)) (λ x. c ⊗ x) ∙ ml in
    get_or-zip2 bit_xor v s i 0 0 0 (omega (arith, long)) (omega (arith, sl))
    ∙ ap (bit_xor (get_or v i 0))
    (ap (λ u. get_or u i 0) e ∙ get_or-map (λ x. c ⊗ x) (map (λ i. get_or v i 0) (back n)) i 0 0 (omega (arith, ml))
    ∙ ap (λ y. c ⊗ y) (get_or-map (λ i. get_or v i 0) (back n) i 0 0 (omega (arith, bl))))

-- A product with 0 adds nothing.
nothing_added : (a c b : ℕ) → b ≡ 0 → a ⊕ c ⊗ b ≡ a
nothing_added a c b e = ap (λ y. a ⊕ c ⊗ y) e ∙ ap (bit_xor a) (product_zero_right c) ∙ xor_zero_r a

-- The first lanes stay as they are.
pub followed_first : (c n : ℕ) (v s : List ℕ) → n ≤ 8 → length v ≡ 16 →
    s ≡ map (λ x. c ⊗ x) (map (λ i. get_or v i 0) (back n)) → ((i : ℕ) → n ≤ i → get_or v i 0 ≡ 0)
    → (i : ℕ) → i < n → get_or (zip2 bit_xor v s) i 0 ≡ get_or v i 0
followed_first c n v s h long e free i l =
    followed_at c n v s h long e i (omega arith)
    ∙ nothing_added (get_or v i 0) c (get_or v (get_or (back n) i 0) 0) (ap (λ j. get_or v j 0) (back_low n i h l)
    ∙ free 15 (omega arith))

-- Behind them stand their products.
pub followed_scaled : (c n : ℕ) (v s : List ℕ) → n ≤ 8 → length v ≡ 16 →
    s ≡ map (λ x. c ⊗ x) (map (λ i. get_or v i 0) (back n)) → ((i : ℕ) → n ≤ i → get_or v i 0 ≡ 0)
    → (i : ℕ) → i < n → get_or (zip2 bit_xor v s) (n + i) 0 ≡ c ⊗ get_or v i 0
followed_scaled c n v s h long e free i l =
    followed_at c n v s h long e (n + i) (omega arith)
    ∙ ap (λ y. y ⊕ c ⊗ get_or v (get_or (back n) (n + i) 0) 0) (free (n + i) (omega arith))
    ∙ xor_zero_l (c ⊗ get_or v (get_or (back n) (n + i) 0) 0)
    ∙ ap (λ j. c ⊗ get_or v j 0) (back_high n (n + i) h (omega arith) (omega arith)
    ∙ (let q : n + i - n ≡ i = omega arith in q))

-- The lanes after these are 0.
pub followed_free : (c n : ℕ) (v s : List ℕ) → n ≤ 8 → length v ≡ 16 →
    s ≡ map (λ x. c ⊗ x) (map (λ i. get_or v i 0) (back n)) → ((i : ℕ) → n ≤ i → get_or v i 0 ≡ 0)
    → (i : ℕ) → 2 * n ≤ i → get_or (zip2 bit_xor v s) i 0 ≡ 0
followed_free c n v s h long e free i l =
    elim (cases_lt i 16) [
      | inl b ↦
          followed_at c n v s h long e i b
          ∙ nothing_added (get_or v i 0) c (get_or v (get_or (back n) i 0) 0)
          (ap (λ j. get_or v j 0) (back_high n i h (omega arith) b) ∙ free (i - n) (omega arith))
          ∙ free i (omega arith)
      | inr b ↦
          let sl : length s ≡ 16 =
          ap length e ∙ length-map (map (λ i. get_or v i 0) (back n)) (λ x. c ⊗ x)
          ∙ length-map (back n) (λ i. get_or v i 0) ∙ back_length n h in
          get_or_past (zip2 bit_xor v s) i 0 (omega (arith, long, length-zip2 bit_xor v s (long ∙ sym sl)))
    ]

-- ---- powers
-- The first n lanes are the powers of x from the power 0 on, and the others are 0.
pub record ArePowers (x n : ℕ) (v : List ℕ) : Type 0 where
  pub each : (i : ℕ) → i < n → get_or v i 0 ≡ raise x i
  pub free : (i : ℕ) → n ≤ i → get_or v i 0 ≡ 0

-- With their products with the power n behind them there are twice as many.
pub twice_powers : (x n c : ℕ) (v r : List ℕ) → ArePowers x n v → c ≡ raise x n →
    ((i : ℕ) → i < n → get_or r i 0 ≡ get_or v i 0)
    → ((i : ℕ) → i < n → get_or r (n + i) 0 ≡ c ⊗ get_or v i 0) → ((i : ℕ) → 2 * n ≤ i → get_or r i 0 ≡ 0) →
    ArePowers x (2 * n) r
twice_powers x n c v r p e first more free = record {
  each = λ i h. elim (cases_lt i n) [
    | inl b ↦ first i b ∙ p.each i b
    | inr b ↦
        let j = i - n in
        let q : n + j ≡ i = omega arith in
        ap (λ m. get_or r m 0) (sym q) ∙ more j (omega arith) ∙ ap (λ y. y ⊗ get_or v j 0) e
        ∙ ap (λ y. raise x n ⊗ y) (p.each j (omega arith))
        ∙ sym (raise_add x n j) ∙ ap (raise x) q
  ];
  free = free;
}

-- Zeros hold 0 at each place, and past their end as well.
zeros_at : (n i : ℕ) → get_or {A = ℕ} (replicate n 0) i 0 ≡ 0
zeros_at zero i = refl
zeros_at (suc n) zero = refl
zeros_at (suc n) (suc i) = zeros_at n i

-- At first there is the power 0 alone.
pub one_power : (x : ℕ) → ArePowers x 1 (1 ∷ replicate 15 0)
unfolding raise
one_power x = record {
  each =
      λ i h. ap (λ j. get_or (1 ∷ replicate 15 0) j 0) (let q : i ≡ 0 = omega arith in q)
      ∙ ap (raise x) (let q : 0 ≡ i = omega arith in q);
  free = λ i h. let q : suc (i - 1) ≡ i =
      omega arith in ap (λ j. get_or (1 ∷ replicate 15 0) j 0) (sym q) ∙ zeros_at 15 (i - 1);
}

-- An element is its own power 1.
pub raise_once : (x : ℕ) → x < 256 → raise x 1 ≡ x
unfolding raise
raise_once x h = product_one_right x h

-- The square of a power has twice its exponent.
pub raise_twice : (x y n : ℕ) → y ≡ raise x n → y ⊗ y ≡ raise x (n + n)
raise_twice x y n e = ap (λ z. z ⊗ z) e ∙ sym (raise_add x n n)

-- Sixteen powers in as many lanes are all of them.
pub all_powers : (x : ℕ) (v : List ℕ) → length v ≡ 16 → ArePowers x 16 v → v ≡ values_from (raise x) 0 16
all_powers x v long p =
    ext_get_or 0 v (values_from (raise x) 0 16) (long ∙ sym (length-values_from (raise x) 0 16))
    (λ i h. p.each i (omega (arith, long)) ∙ sym (get_or-values_from (raise x) 0 16 i (omega (arith, long))
    ∙ ap (raise x) (let q : 0 + i ≡ i = omega arith in q)))
