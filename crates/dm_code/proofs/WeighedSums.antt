-- Values of polynomials at sixteen elements at once, of two parts of their terms, and kept for all places of a word.
use Rattle.std.proofs.Common.{◌≡◌, ℕ, ◌+◌, ◌-◌, ◌%◌, ◌<◌, ◌≤◌, List, [], ◌∷◌, ◌++◌, length, get_or, take}
use Rattle.std.proofs.Common.{drop, map, refl, sym, ap, ◌∙◌, arith, bit_xor, inl, inr, length-take, length-drop}
use Rattle.std.proofs.Common.{length-append}
use Rattle.std.proofs.lemmas.Bool.{cases_lt}
use Rattle.std.proofs.lemmas.Simd.{get_or-put_chunk_at, length-put_chunk}
use borrow.Rule.Slice.PartMut.{put_mid}
use lib.Bits.{xor_assoc, xor_zero_l}
use lib.Lanes.{put_chunk, zip2}
use Rattle.gf301.specs.Field.{◌⊕◌, ◌⊗◌, raise}
use Rattle.gf301.specs.Polynomial.{value}
use Rattle.gf301.proofs.Exported.{product_assoc, product_sum_left, product_zero_left, raise_add}
use Rattle.dm_code.specs.inner.OddTerms.{odd_term, odd_part}
use Rattle.dm_code.proofs.OddTerms.{even_nothing, odd_counts}
use Rattle.dm_code.proofs.Parts.{length-mid, mid_before, mid_at}

-- ---- two parts of a polynomial's terms
-- The value of terms in two parts is that of the upper ones, times the power behind them, and that of the lower ones.
value_parts : (u v : List ℕ) (x : ℕ) → value (u ++ v) x ≡ value u x ⊗ raise x (length v) ⊕ value v x
unfolding value
value_parts [] v x =
    sym (ap (λ y. y ⊕ value v x) (product_zero_left (raise x (length v))) ∙ xor_zero_l (value v x))
value_parts (a ∷ u) v x =
    let y = raise x (length u) in
    let z = raise x (length v) in
    ap (λ n. a ⊗ raise x n ⊕ value (u ++ v) x) (length-append u v)
    ∙ ap (λ m. a ⊗ m ⊕ value (u ++ v) x) (raise_add x (length u) (length v))
    ∙ ap (bit_xor (a ⊗ (y ⊗ z))) (value_parts u v x)
    ∙ ap (λ m. m ⊕ (value u x ⊗ z ⊕ value v x)) (sym (product_assoc a y z))
    ∙ sym (xor_assoc ((a ⊗ y) ⊗ z) (value u x ⊗ z) (value v x))
    ∙ ap (λ m. m ⊕ value v x) (sym (product_sum_left (a ⊗ y) (value u x) z))

-- A term whose power grows by an even number, and that is multiplied, counts as before.
odd_term_more : (n m a y z : ℕ) → m % 2 ≡ 0 → odd_term (n + m) (a ⊗ (y ⊗ z)) ≡ odd_term n (a ⊗ y) ⊗ z
odd_term_more n m a y z h =
    elim (cases_lt (n % 2) 1) [
      | inl l ↦
          let e : n % 2 ≡ 0 = omega arith in
          let f : (n + m) % 2 ≡ 0 = omega arith in
          even_nothing (n + m) (a ⊗ (y ⊗ z)) f
          ∙ sym (ap (λ t. t ⊗ z) (even_nothing n (a ⊗ y) e) ∙ product_zero_left z)
      | inr l ↦
          let e : n % 2 ≡ 1 = omega arith in
          let f : (n + m) % 2 ≡ 1 = omega arith in
          odd_counts (n + m) (a ⊗ (y ⊗ z)) f ∙ sym (product_assoc a y z)
          ∙ ap (λ t. t ⊗ z) (sym (odd_counts n (a ⊗ y) e))
    ]

-- So is the sum of the terms of odd powers, where the lower part has an even number of terms.
odd_parts : (u v : List ℕ) (x : ℕ) → length v % 2 ≡ 0 →
    odd_part (u ++ v) x ≡ odd_part u x ⊗ raise x (length v) ⊕ odd_part v x
unfolding odd_part
odd_parts [] v x h =
    sym (ap (λ y. y ⊕ odd_part v x) (product_zero_left (raise x (length v))) ∙ xor_zero_l (odd_part v x))
odd_parts (a ∷ u) v x h =
    let y = raise x (length u) in
    let z = raise x (length v) in
    let t = odd_term (length u) (a ⊗ y) in
    ap (λ n. odd_term n (a ⊗ raise x n) ⊕ odd_part (u ++ v) x) (length-append u v)
    ∙ ap (λ m. odd_term (length u + length v) (a ⊗ m) ⊕ odd_part (u ++ v) x) (raise_add x (length u) (length v))
    ∙ ap (λ m. m ⊕ odd_part (u ++ v) x) (odd_term_more (length u) (length v) a y z h)
    ∙ ap (bit_xor (t ⊗ z)) (odd_parts u v x h)
    ∙ sym (xor_assoc (t ⊗ z) (odd_part u x ⊗ z) (odd_part v x))
    ∙ ap (λ m. m ⊕ odd_part v x) (sym (product_sum_left t (odd_part u x) z))

-- Lane by lane.
lanes_parts : (f g h : ℕ → ℕ) (m : ℕ) (xs : List ℕ) → ((x : ℕ) → h x ≡ f x ⊗ raise x m ⊕ g x) →
    zip2 bit_xor (zip2 (λ x y. x ⊗ y) (map f xs) (map (λ x. raise x m) xs)) (map g xs) ≡ map h xs
lanes_parts f g h m [] e = refl
lanes_parts f g h m (x ∷ xs) e = λ i. sym (e x) i ∷ lanes_parts f g h m xs e i

-- The values of both parts.
pub values_of_parts : (t u v xs r : List ℕ) (m : ℕ) → t ≡ u ++ v → length v ≡ m
    → r ≡ zip2 (λ x y. x ⊗ y) (map (value u) xs) (map (λ x. raise x m) xs)
    → zip2 bit_xor r (map (value v) xs) ≡ map (value t) xs
values_of_parts t u v xs r m te vl re =
    ap (λ y. zip2 bit_xor y (map (value v) xs)) re
    ∙ lanes_parts (value u) (value v) (value t) m xs
    (λ x. ap (λ y. value y x) te ∙ value_parts u v x ∙ ap (λ n. value u x ⊗ raise x n ⊕ value v x) vl)

-- The sums of their terms of odd powers.
pub odd_of_parts : (t u v xs r : List ℕ) (m : ℕ) → t ≡ u ++ v → length v ≡ m → m % 2 ≡ 0
    → r ≡ zip2 (λ x y. x ⊗ y) (map (odd_part u) xs) (map (λ x. raise x m) xs)
    → zip2 bit_xor r (map (odd_part v) xs) ≡ map (odd_part t) xs
odd_of_parts t u v xs r m te vl even re =
    ap (λ y. zip2 bit_xor y (map (odd_part v) xs)) re
    ∙ lanes_parts (odd_part u) (odd_part v) (odd_part t) m xs
    (λ x. ap (λ y. odd_part y x) te ∙ odd_parts u v x (ap (λ n. n % 2) vl ∙ even)
    ∙ ap (λ n. odd_part u x ⊗ raise x n ⊕ odd_part v x) vl)

-- ---- kept for all places
-- Sixteen more of the values of f are put behind those that are there.
pub stored : (a m : ℕ) (xs r : List ℕ) (f : ℕ → ℕ) → a + 16 ≤ length xs → a + m ≡ length xs → length r ≡ 16 →
    ((e : ℕ) → e < a → get_or xs e 0 ≡ f e) → ((i : ℕ) → i < 16 → get_or r i 0 ≡ f (a + i)) → (e : ℕ) → e < a + 16
    → get_or (put_mid a m xs (put_chunk 0 (take m (drop a xs)) r)) e 0 ≡ f e
stored a m xs r f room whole rl before now e h =
    let ys = put_chunk 0 (take m (drop a xs)) r in
    let ol : length (take m (drop a xs)) ≡ m = simp (length-take, length-drop) (omega arith) in
    let yl : length ys ≡ m = length-put_chunk 0 (take m (drop a xs)) r ∙ ol in
    elim (cases_lt e a) [
      | inl l ↦ mid_before a m xs ys e (omega arith) l ∙ before e l
      | inr l ↦
          let i = e - a in
          let q : a + i ≡ e = omega arith in
          ap (λ j. get_or (put_mid a m xs ys) j 0) (sym q) ∙ mid_at a m xs ys i (omega arith) yl (omega arith)
          ∙ ap (λ j. get_or ys j 0) (let z : i ≡ 0 + i = omega arith in z)
          ∙ get_or-put_chunk_at 0 (take m (drop a xs)) r i 0 (omega (arith, rl)) (omega (arith, rl, ol))
          ∙ now i (omega arith) ∙ ap f q
    ]

-- The list stays as long.
pub length-stored : (a m : ℕ) (xs r : List ℕ) → a + m ≡ length xs →
    length (put_mid a m xs (put_chunk 0 (take m (drop a xs)) r)) ≡ length xs
length-stored a m xs r whole =
    let ol : length (take m (drop a xs)) ≡ m = simp (length-take, length-drop) (omega arith) in
    length-mid a m xs (put_chunk 0 (take m (drop a xs)) r) (omega arith)
    (length-put_chunk 0 (take m (drop a xs)) r ∙ ol)
