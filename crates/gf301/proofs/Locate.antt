-- The places of a list that are not 0, from the sums of powers of their locators.
use Rattle.std.proofs.Common.{◌≡◌, ℕ, zero, suc, ◌+◌, ◌-◌, ◌<◌, ◌≤◌, List, [], ◌∷◌, length, get_or, refl, sym, ap, ◌∙◌}
use Rattle.std.proofs.Common.{arith, bit_xor}
use lib.Bits.{xor_self, xor_zero_r}
use Rattle.gf301.specs.Field.{◌⊕◌, ◌⊗◌, raise, power}
use Rattle.gf301.specs.Polynomial.{value, convolution, coefficient, times}
use Rattle.gf301.proofs.Lists.{nonzeros}
use Rattle.gf301.proofs.FieldLaws.{product_sum_right, product_comm, product_zero_left, product_zero_right}
use Rattle.gf301.proofs.FieldLaws.{product_one_left, raise_below, raise_add}
use Rattle.gf301.proofs.Weights.{weigh, weighted, weigh_sum, weigh_scale, weigh_same, weigh_weighted, weigh_zeros}
use Rattle.gf301.proofs.Weights.{product_swap, zeros_parts}
use Rattle.gf301.proofs.PolyLaws.{value_times, length_times, factor_value, get_or-times}
use Rattle.gf301.proofs.Series.{conv_cons, conv_single}

-- The power sum number i of a list is the sum of each element times the power i + 1 of its locator.
unfoldable pub sums : List ℕ → ℕ → ℕ
sums e i = weigh (λ x. raise x (suc i)) e

-- The list p is laid on the series s from the place u on: its last coefficient is multiplied by s u, the one before it
-- by s (u + 1), and so on, and the products are added.
unfoldable pub laid : List ℕ → (ℕ → ℕ) → ℕ → ℕ
laid [] s u = 0
laid (a ∷ p) s u = a ⊗ s (length p + u) ⊕ laid p s u

-- From the degree of p on, the coefficients of the product of p and s are p laid on s.
pub conv_laid : (a : ℕ) (p : List ℕ) (s : ℕ → ℕ) (u : ℕ) →
    convolution (coefficient (a ∷ p)) s (length p + u) ≡ laid (a ∷ p) s u
unfolding laid
conv_laid a [] s u = conv_single a s (0 + u) ∙ sym (xor_zero_r (a ⊗ s (0 + u)))
conv_laid a (b ∷ p) s u =
    let e : suc (length p) + u ≡ suc (length p + u) = omega arith in
    ap (convolution (coefficient (a ∷ b ∷ p)) s) e ∙ conv_cons a (b ∷ p) s (length p + u)
    ∙ ap (λ n. a ⊗ s n ⊕ convolution (coefficient (b ∷ p)) s (length p + u)) (sym e)
    ∙ ap (bit_xor (a ⊗ s (suc (length p) + u))) (conv_laid b p s u)

-- Laid on the power sums, p weighs each place by its value at the locator there.
pub laid_sums : (e p : List ℕ) (u : ℕ) → laid p (sums e) u ≡ weigh (λ x. raise x (suc u) ⊗ value p x) e
unfolding laid sums value
laid_sums e [] u =
    sym (weigh_same (λ x. raise x (suc u) ⊗ 0) (λ x. 0 ⊗ 0) (λ x. product_zero_right (raise x (suc u))
    ∙ sym (product_zero_left 0)) e ∙ weigh_scale 0 (λ x. 0) e ∙ product_zero_left (weigh (λ x. 0) e))
laid_sums e (a ∷ p) u =
    ap (bit_xor (a ⊗ weigh (λ x. raise x (suc (length p + u))) e)) (laid_sums e p u)
    ∙ ap (λ y. y ⊕ weigh (λ x. raise x (suc u) ⊗ value p x) e)
    (sym (weigh_scale a (λ x. raise x (suc (length p + u))) e))
    ∙ sym (weigh_sum (λ x. a ⊗ raise x (suc (length p + u))) (λ x. raise x (suc u) ⊗ value p x) e)
    ∙ weigh_same (λ x. a ⊗ raise x (suc (length p + u)) ⊕ raise x (suc u) ⊗ value p x)
    (λ x. raise x (suc u) ⊗ (a ⊗ raise x (length p) ⊕ value p x))
    (λ x. ap (λ y. a ⊗ y ⊕ raise x (suc u) ⊗ value p x)
    (ap (raise x) (let q : suc (length p + u) ≡ suc u + length p = omega arith in q)
    ∙ raise_add x (suc u) (length p))
    ∙ ap (λ y. y ⊕ raise x (suc u) ⊗ value p x) (product_swap a (raise x (suc u)) (raise x (length p)))
    ∙ sym (product_sum_right (raise x (suc u)) (a ⊗ raise x (length p)) (value p x))) e

-- ---- What is 0 at each place that isn't 0 connects the sums
-- A polynomial that is 0 at the locator of each place that is not 0 has a product with the power sums whose
-- coefficients are 0 from its degree on.
pub connects : (e : List ℕ) (a : ℕ) (p : List ℕ) → nonzeros (weighted (value (a ∷ p)) e) ≡ 0 → (i : ℕ) → length p ≤ i →
    convolution (coefficient (a ∷ p)) (sums e) i ≡ 0
connects e a p z i h =
    let u = i - length p in
    ap (convolution (coefficient (a ∷ p)) (sums e)) (let q : i ≡ length p + (i - length p) = omega arith in q)
    ∙ conv_laid a p (sums e) u ∙ laid_sums e (a ∷ p) u
    ∙ weigh_same (λ x. raise x (suc u) ⊗ value (a ∷ p) x) (λ x. value (a ∷ p) x ⊗ raise x (suc u))
    (λ x. product_comm (raise x (suc u)) (value (a ∷ p) x)) e
    ∙ sym (weigh_weighted (λ x. raise x (suc u)) (value (a ∷ p)) e)
    ∙ weigh_zeros (λ x. raise x (suc u)) (weighted (value (a ∷ p)) e) z

-- ---- The locator of a list: the product of the factors of its places that aren't 0
-- The locator of a list has the factor x - 2^n for each place that is not 0, n being the number of places after it.
unfoldable pub locate : List ℕ → List ℕ
locate [] = 1 ∷ []
locate (zero ∷ e) = locate e
locate (suc a ∷ e) = times (1 ∷ power (length e) ∷ []) (locate e)

-- The first coefficient of a product with x - r is 1 times that of the other factor.
head_times : (r b : ℕ) (p : List ℕ) → get_or (times (1 ∷ r ∷ []) (b ∷ p)) 0 0 ≡ 1 ⊗ b
unfolding convolution
head_times r b p = get_or-times (1 ∷ r ∷ []) (b ∷ p) 0 (omega arith)

-- The first coefficient of a product with x - r is 1 where that of the other factor is 1.
head_product : (r : ℕ) (p : List ℕ) → 0 < length p → get_or p 0 0 ≡ 1 → get_or (times (1 ∷ r ∷ []) p) 0 0 ≡ 1
head_product r [] l h = absurd (omega arith)
head_product r (b ∷ p) l h = head_times r b p ∙ ap (λ y. 1 ⊗ y) h ∙ product_one_left 1 (omega arith)

-- The locator has one coefficient more than there are places that are not 0.
pub length-locate : (e : List ℕ) → length (locate e) ≡ suc (nonzeros e)
unfolding locate nonzeros
length-locate [] = refl
length-locate (zero ∷ e) = length-locate e
length-locate (suc a ∷ e) =
    let i : length (locate e) ≡ suc (nonzeros e) = length-locate e in
    let l : length (times (1 ∷ power (length e) ∷ []) (locate e)) + 1 ≡ 2 + length (locate e) =
    length_times (1 ∷ power (length e) ∷ []) (locate e) (omega arith) in
    omega arith

-- The first coefficient of the locator is 1.
pub head-locate : (e : List ℕ) → get_or (locate e) 0 0 ≡ 1
unfolding locate
head-locate [] = refl
head-locate (zero ∷ e) = head-locate e
head-locate (suc a ∷ e) = head_product (power (length e)) (locate e) (omega (arith, length-locate e)) (head-locate e)

-- A list of zeros with one more 0 in front is a list of zeros.
zeros_cons : (a : ℕ) (e : List ℕ) → a ≡ 0 → nonzeros e ≡ 0 → nonzeros (a ∷ e) ≡ 0
unfolding nonzeros
zeros_cons zero e h z = z
zeros_cons (suc a) e h z = absurd (omega arith)

-- A list whose weighted list is zeros is still zeros when a factor is added to the weight.
weighted_factor : (f c : ℕ → ℕ) (e : List ℕ) → nonzeros (weighted f e) ≡ 0 → nonzeros (weighted (λ x. c x ⊗ f x) e) ≡ 0
unfolding weighted
weighted_factor f c [] z = z
weighted_factor f c (a ∷ e) z =
    let x = power (length e) in
    let p : (a ⊗ f x ≡ 0) × (nonzeros (weighted f e) ≡ 0) = zeros_parts (a ⊗ f x) (weighted f e) z in
    zeros_cons (a ⊗ (c x ⊗ f x)) (weighted (λ x. c x ⊗ f x) e) (product_swap a (c x) (f x) ∙ ap (λ y. c x ⊗ y) p.0
    ∙ product_zero_right (c x)) (weighted_factor f c e p.1)

-- Functions with the same values are equal.
pub same_functions : {f g : ℕ → ℕ} → ((i : ℕ) → f i ≡ g i) → f ≡ g
same_functions h = λ k i. h i k

-- The locator of a list is 0 at the locator of each place that is not 0.
pub zeros-locate : (e : List ℕ) → nonzeros (weighted (value (locate e)) e) ≡ 0
unfolding locate weighted nonzeros
zeros-locate [] = refl
zeros-locate (zero ∷ e) =
    zeros_cons (0 ⊗ value (locate e) (power (length e))) (weighted (value (locate e)) e)
    (product_zero_left (value (locate e) (power (length e)))) (zeros-locate e)
zeros-locate (suc a ∷ e) =
    let r = power (length e) in
    let g = locate e in
    let l : 0 < length g = omega (arith, length-locate e) in
    let v : (x : ℕ) → value (times (1 ∷ r ∷ []) g) x ≡ value (1 ∷ r ∷ []) x ⊗ value g x =
    λ x. value_times x (1 ∷ r ∷ []) g l in
    zeros_cons (suc a ⊗ value (times (1 ∷ r ∷ []) g) r) (weighted (value (times (1 ∷ r ∷ []) g)) e)
    (ap (λ y. suc a ⊗ y) (v r ∙ ap (λ y. y ⊗ value g r)
    (factor_value r r (raise_below 2 (length e)) (raise_below 2 (length e)) ∙ xor_self r)
    ∙ product_zero_left (value g r)) ∙ product_zero_right (suc a))
    (ap (λ f. nonzeros (weighted f e)) (same_functions v)
    ∙ weighted_factor (value g) (value (1 ∷ r ∷ [])) e (zeros-locate e))
