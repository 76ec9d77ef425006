-- The locator of some places, and the evaluator, a place or a syndrome at a time.
use Rattle.std.proofs.Common.{◌≡◌, ℕ, zero, suc, ◌+◌, ◌-◌, ◌<◌, ◌≤◌, List, [], ◌∷◌, length, get_or, take}
use Rattle.std.proofs.Common.{length-take, refl, sym, ap, ◌∙◌, arith, bit_xor, inl, inr}
use Rattle.std.proofs.lemmas.Bool.{cases_lt}
use Rattle.std.proofs.lemmas.List.{get_or_past, get_or-take, take_more}
use borrow.Rule.Slice.PartMut.{put_mid}
use lib.Bits.{xor_zero_r}
use Rattle.gf301.specs.Field.{◌⊕◌, ◌⊗◌, power}
use Rattle.gf301.specs.Polynomial.{Bytes, coefficient, convolution, times}
use Rattle.gf301.proofs.Exported.{conv_cons, conv_nothing, conv_push, conv_same_left, get_or-times, length_times}
use Rattle.gf301.proofs.Exported.{product_one_left, product_zero_right}
use Rattle.dm_code.specs.inner.Lessened.{places_locator}
use Rattle.dm_code.proofs.EachErased.{length_locator}
use Rattle.dm_code.proofs.ErasedValues.{bytes_locator}
use Rattle.dm_code.proofs.ErrorPlaces.{locator_at}
use Rattle.dm_code.proofs.Pairs.{byte_at}
use Rattle.dm_code.proofs.Parts.{mid_before, mid_at, mid_past}

-- The product of a list of one number and a series is the multiple.
conv_one : (a : ℕ) (s : ℕ → ℕ) (n : ℕ) → convolution (coefficient (a ∷ [])) s n ≡ a ⊗ s n
unfolding convolution
conv_one a s zero = refl
conv_one a s (suc n) =
    conv_cons a [] s n ∙ ap (bit_xor (a ⊗ s (suc n))) (conv_nothing s n) ∙ xor_zero_r (a ⊗ s (suc n))

-- A coefficient of the product with x - r within it.
factor_at : (r : ℕ) (l : List ℕ) (i : ℕ) → i < suc (length l) →
    coefficient (times (1 ∷ r ∷ []) l) i ≡ convolution (coefficient (1 ∷ r ∷ [])) (coefficient l) i
factor_at r l i h = get_or-times (1 ∷ r ∷ []) l i (omega arith)

-- Its first coefficient is that of the list.
factor_first : (r : ℕ) (l : List ℕ) → Bytes l → coefficient (times (1 ∷ r ∷ []) l) 0 ≡ coefficient l 0
unfolding convolution
factor_first r l b = factor_at r l 0 (omega arith) ∙ product_one_left (coefficient l 0) (byte_at l b 0)

-- Each other one is that of the list there, plus r times the one before.
factor_next : (r : ℕ) (l : List ℕ) (i : ℕ) → 0 < length l → Bytes l →
    coefficient (times (1 ∷ r ∷ []) l) (suc i) ≡ coefficient l (suc i) ⊕ r ⊗ coefficient l i
factor_next r l i some b =
    elim (cases_lt i (length l)) [
      | inl h ↦
          factor_at r l (suc i) (omega arith) ∙ conv_cons 1 (r ∷ []) (coefficient l) i
          ∙ ap (λ y. y ⊕ convolution (coefficient (r ∷ [])) (coefficient l) i)
          (product_one_left (coefficient l (suc i)) (byte_at l b (suc i)))
          ∙ ap (bit_xor (coefficient l (suc i))) (conv_one r (coefficient l) i)
      | inr h ↦
          get_or_past (times (1 ∷ r ∷ []) l) (suc i) 0 (omega (arith, length_times (1 ∷ r ∷ []) l some))
          ∙ sym (ap (λ y. y ⊕ r ⊗ coefficient l i) (get_or_past l (suc i) 0 (omega arith))
          ∙ ap (λ y. 0 ⊕ r ⊗ y) (get_or_past l i 0 h) ∙ ap (λ y. 0 ⊕ y) (product_zero_right r))
    ]

-- A list has the coefficients of the locator of some places, and zeros behind them.
abbrev pub IsLocator : ℕ → List ℕ → List ℕ → Type 0
IsLocator n q l = (i : ℕ) → get_or l i 0 ≡ coefficient (places_locator n q) i

-- With r times the list added to it, one place further on, it has those for one place more.
pub locator_step : (n p r : ℕ) (q l ys : List ℕ) (v : ℕ) → IsLocator n q l → r ≡ power (n - suc p) → suc v ≤ length l →
    suc (length q) ≤ v → length ys ≡ v
    → ((i : ℕ) → i < v → get_or ys i 0 ≡ get_or l (1 + i) 0 ⊕ r ⊗ get_or l i 0)
    → IsLocator n (p ∷ q) (put_mid 1 v l ys)
unfolding places_locator
locator_step n p r q l ys v h re room few yl e zero =
    mid_before 1 v l ys 0 (omega arith) (omega arith) ∙ h 0
    ∙ sym (factor_first (locator_at n p) (places_locator n q) (bytes_locator n q))
locator_step n p r q l ys v h re room few yl e (suc i) =
    let t = places_locator n q in
    let tl = length_locator n q in
    let some : 0 < length t = omega arith in
    let next : coefficient (times (1 ∷ locator_at n p ∷ []) t) (suc i) ≡ get_or l (1 + i) 0 ⊕ r ⊗ get_or l i 0 =
    factor_next (locator_at n p) t i some (bytes_locator n q)
    ∙ ap (λ y. coefficient t (suc i) ⊕ y ⊗ coefficient t i) (sym re)
    ∙ ap (λ j. coefficient t j ⊕ r ⊗ coefficient t i) (let z : suc i ≡ 1 + i = omega arith in z)
    ∙ ap (λ y. y ⊕ r ⊗ coefficient t i) (sym (h (1 + i)))
    ∙ ap (λ y. get_or l (1 + i) 0 ⊕ r ⊗ y) (sym (h i)) in
    ap (λ j. get_or (put_mid 1 v l ys) j 0) (let z : suc i ≡ 1 + i = omega arith in z) ∙ elim (cases_lt i v) [
      | inl b ↦ mid_at 1 v l ys i (omega arith) yl b ∙ e i b ∙ sym next
      | inr b ↦
          mid_past 1 v l ys i (omega arith) yl b
          ∙ sym (next ∙ ap (λ y. get_or l (1 + i) 0 ⊕ r ⊗ y) (h i ∙ get_or_past t i 0 (omega arith))
          ∙ ap (bit_xor (get_or l (1 + i) 0)) (product_zero_right r) ∙ xor_zero_r (get_or l (1 + i) 0))
    ]

-- A product of the first syndromes has, with one syndrome more, the same coefficients before its place.
pub conv_before : (s : List ℕ) (l : ℕ → ℕ) (j i : ℕ) → i < j →
    convolution (coefficient (take (j + 1) s)) l i ≡ convolution (coefficient (take j s)) l i
conv_before s l j i h =
    conv_same_left (coefficient (take (j + 1) s)) (coefficient (take j s)) l i
    (λ k b. get_or-take (j + 1) s k 0 (omega arith) ∙ sym (get_or-take j s k 0 (omega arith)))

-- From its place on it has multiples of the other factor more.
pub conv_after : (s : List ℕ) (l : ℕ → ℕ) (j i : ℕ) → j < length s → j ≤ i →
    convolution (coefficient (take (j + 1) s)) l i ≡ convolution (coefficient (take j s)) l i ⊕ get_or s j 0 ⊗ l (i - j)
conv_after s l j i h b =
    let k : length (take j s) ≡ j = simp length-take (omega arith) in
    ap (λ t. convolution (coefficient t) l i) (take_more s j 0 h)
    ∙ conv_push (take j s) (get_or s j 0) l i (i - j) (omega arith)
