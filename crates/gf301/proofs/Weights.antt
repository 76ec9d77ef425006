-- Sums over the places of a list, each weighed by a function of its locator: 2 to the power of the number of places
-- after it.
use Rattle.std.proofs.Common.{◌≡◌, ℕ, zero, suc, ◌+◌, ◌<◌, ◌≤◌, List, [], ◌∷◌, length, refl, sym, ap, subst, ◌∙◌, arith}
use Rattle.std.proofs.Common.{bit_xor}
use lib.Bits.{xor_self}
use Rattle.gf301.specs.Field.{◌⊕◌, ◌⊗◌, raise, power}
use Rattle.gf301.specs.Polynomial.{value, Bytes}
use Rattle.gf301.proofs.Lists.{nonzeros}
use Rattle.gf301.proofs.Additive.{xor_swap}
use Rattle.gf301.proofs.FieldLaws.{product_sum_left, product_sum_right, product_assoc, product_comm, product_zero_left}
use Rattle.gf301.proofs.FieldLaws.{product_zero_right, product_below, product_cancel, sum_zero, sum_below, raise_below}
use Rattle.gf301.proofs.FieldLaws.{raise_positive, raise_swap, power_apart}
use Rattle.std.proofs.Math.Nat.{pos_of_ne-zero, le_refl}

-- The elements of a list, each times f of its locator, are added.
unfoldable pub weigh : (ℕ → ℕ) → List ℕ → ℕ
weigh f [] = 0
weigh f (a ∷ e) = a ⊗ f (power (length e)) ⊕ weigh f e

-- The weighted list has each element times f of its locator.
unfoldable pub weighted : (ℕ → ℕ) → List ℕ → List ℕ
weighted f [] = []
weighted f (a ∷ e) = a ⊗ f (power (length e)) ∷ weighted f e

-- Weighing by a sum of two functions is adding what both weigh.
pub weigh_sum : (f g : ℕ → ℕ) (e : List ℕ) → weigh (λ x. f x ⊕ g x) e ≡ weigh f e ⊕ weigh g e
unfolding weigh
weigh_sum f g [] = refl
weigh_sum f g (a ∷ e) =
    ap (λ y. y ⊕ weigh (λ x. f x ⊕ g x) e) (product_sum_right a (f (power (length e))) (g (power (length e))))
    ∙ ap (bit_xor (a ⊗ f (power (length e)) ⊕ a ⊗ g (power (length e)))) (weigh_sum f g e)
    ∙ xor_swap (a ⊗ f (power (length e))) (a ⊗ g (power (length e))) (weigh f e) (weigh g e)

-- Two left factors change places.
pub product_swap : (a b c : ℕ) → a ⊗ (b ⊗ c) ≡ b ⊗ (a ⊗ c)
product_swap a b c = sym (product_assoc a b c) ∙ ap (λ x. x ⊗ c) (product_comm a b) ∙ product_assoc b a c

-- Weighing by c times a function is c times what the function weighs.
pub weigh_scale : (c : ℕ) (f : ℕ → ℕ) (e : List ℕ) → weigh (λ x. c ⊗ f x) e ≡ c ⊗ weigh f e
unfolding weigh
weigh_scale c f [] = sym (product_zero_right c)
weigh_scale c f (a ∷ e) =
    ap (λ y. y ⊕ weigh (λ x. c ⊗ f x) e) (product_swap a c (f (power (length e))))
    ∙ ap (bit_xor (c ⊗ (a ⊗ f (power (length e))))) (weigh_scale c f e)
    ∙ sym (product_sum_right c (a ⊗ f (power (length e))) (weigh f e))

-- Equal weights give equal sums.
pub weigh_same : (f g : ℕ → ℕ) → ((x : ℕ) → f x ≡ g x) → (e : List ℕ) → weigh f e ≡ weigh g e
unfolding weigh
weigh_same f g h [] = refl
weigh_same f g h (a ∷ e) =
    ap (λ y. a ⊗ y ⊕ weigh f e) (h (power (length e))) ∙ ap (bit_xor (a ⊗ g (power (length e)))) (weigh_same f g h e)

-- Weighing keeps the length.
pub length-weighted : (f : ℕ → ℕ) (e : List ℕ) → length (weighted f e) ≡ length e
unfolding weighted
length-weighted f [] = refl
length-weighted f (a ∷ e) = ap suc (length-weighted f e)

-- Weighing twice is weighing by the product.
pub weigh_weighted : (f g : ℕ → ℕ) (e : List ℕ) → weigh f (weighted g e) ≡ weigh (λ x. g x ⊗ f x) e
unfolding weigh weighted
weigh_weighted f g [] = refl
weigh_weighted f g (a ∷ e) =
    ap (λ n. (a ⊗ g (power (length e))) ⊗ f (power n) ⊕ weigh f (weighted g e)) (length-weighted g e)
    ∙ ap (λ y. y ⊕ weigh f (weighted g e)) (product_assoc a (g (power (length e))) (f (power (length e))))
    ∙ ap (bit_xor (a ⊗ (g (power (length e)) ⊗ f (power (length e))))) (weigh_weighted f g e)

-- The value at 2^i is the sum of the i-th powers of the locators.
pub value_weigh : (i : ℕ) (e : List ℕ) → value e (power i) ≡ weigh (λ x. raise x i) e
unfolding value weigh
value_weigh i [] = refl
value_weigh i (a ∷ e) =
    ap (λ y. a ⊗ y ⊕ value e (power i)) (raise_swap 2 i (length e))
    ∙ ap (bit_xor (a ⊗ raise (power (length e)) i)) (value_weigh i e)

-- The head of a list of bytes is a byte.
pub bytes_head : (a : ℕ) (e : List ℕ) → Bytes (a ∷ e) → a < 256
bytes_head a e h = h 0 0 (omega arith)

-- The tail of a list of bytes is a list of bytes.
pub bytes_tail : (a : ℕ) (e : List ℕ) → Bytes (a ∷ e) → Bytes e
bytes_tail a e h = λ k d l. h (suc k) d (omega arith)

-- A byte in front of a list of bytes makes a list of bytes.
pub bytes_cons : (a : ℕ) (e : List ℕ) → a < 256 → Bytes e → Bytes (a ∷ e)
bytes_cons a e l h zero d b = l
bytes_cons a e l h (suc k) d b = h k d (omega arith)

-- A weighted list is a list of bytes.
pub bytes_weighted : (f : ℕ → ℕ) (e : List ℕ) → Bytes (weighted f e)
unfolding weighted
bytes_weighted f [] = λ k d l. absurd (omega arith)
bytes_weighted f (a ∷ e) =
    bytes_cons (a ⊗ f (power (length e))) (weighted f e) (product_below a (f (power (length e)))) (bytes_weighted f e)

-- A head adds at most one place that is not 0.
nonzeros_le : (a : ℕ) (e : List ℕ) → nonzeros (a ∷ e) ≤ suc (nonzeros e)
unfolding nonzeros
nonzeros_le zero e = omega arith
nonzeros_le (suc a) e = omega arith

-- A list of zeros has a head of 0 and a tail of zeros.
pub zeros_parts : (a : ℕ) (e : List ℕ) → nonzeros (a ∷ e) ≡ 0 → (a ≡ 0) × (nonzeros e ≡ 0)
unfolding nonzeros
zeros_parts zero e h = (refl, h)
zeros_parts (suc a) e h = absurd (omega arith)

-- Weighing makes no new place that is not 0.
pub nonzeros_weighted : (f : ℕ → ℕ) (e : List ℕ) → nonzeros (weighted f e) ≤ nonzeros e
unfolding weighted nonzeros
nonzeros_weighted f [] = omega arith
nonzeros_weighted f (zero ∷ e) =
    subst (λ x. nonzeros (x ∷ weighted f e) ≤ nonzeros e) (sym (product_zero_left (f (power (length e)))))
    (nonzeros_weighted f e)
nonzeros_weighted f (suc a ∷ e) =
    let r : nonzeros (weighted f e) ≤ nonzeros e = nonzeros_weighted f e in
    let s : nonzeros (suc a ⊗ f (power (length e)) ∷ weighted f e) ≤ suc (nonzeros (weighted f e)) =
    nonzeros_le (suc a ⊗ f (power (length e))) (weighted f e) in
    omega arith

-- A successor is not 0.
not_zero : (a : ℕ) → suc a ≡ 0 → ⊥
not_zero a e = omega arith

-- A list whose head is not 0 is not zeros.
head_not_zero : (a : ℕ) (e : List ℕ) → (a ≡ 0 → ⊥) → nonzeros (a ∷ e) ≡ 0 → ⊥
unfolding nonzeros
head_not_zero zero e h z = h refl
head_not_zero (suc a) e h z = not_zero (nonzeros e) z

-- A list of zeros weighs nothing.
pub weigh_zeros : (f : ℕ → ℕ) (e : List ℕ) → nonzeros e ≡ 0 → weigh f e ≡ 0
unfolding weigh nonzeros
weigh_zeros f [] h = refl
weigh_zeros f (zero ∷ e) h = ap (λ x. x ⊕ weigh f e) (product_zero_left (f (power (length e)))) ∙ weigh_zeros f e h
weigh_zeros f (suc a ∷ e) h = absurd (omega arith)

-- Where no weight is 0, a list whose weighted list is zeros is itself zeros.
pub zeros_from_weighted : (f : ℕ → ℕ) (n : ℕ) → ((j : ℕ) → j < n → (0 < f (power j)) × (f (power j) < 256)) →
    (e : List ℕ) → length e ≤ n → Bytes e → nonzeros (weighted f e) ≡ 0 → nonzeros e ≡ 0
unfolding weighted nonzeros
zeros_from_weighted f n h [] l b z = refl
zeros_from_weighted f n h (zero ∷ e) l b z =
    zeros_from_weighted f n h e (omega arith) (bytes_tail 0 e b)
    (subst (λ x. nonzeros (x ∷ weighted f e) ≡ 0) (product_zero_left (f (power (length e)))) z)
zeros_from_weighted f n h (suc a ∷ e) l b z =
    let w : (0 < f (power (length e))) × (f (power (length e)) < 256) = h (length e) (omega arith) in
    absurd (head_not_zero (suc a ⊗ f (power (length e))) (weighted f e)
    (λ q. not_zero a (product_cancel (f (power (length e))) (suc a) w.0 w.1 (bytes_head (suc a) e b)
    (product_comm (f (power (length e))) (suc a) ∙ q))) z)

-- The weight x - 2^n is 0 at the place with n places after it, and so leaves this place out.
without : ℕ → ℕ → ℕ
without n x = x ⊕ power n

-- A head of 0 adds nothing to a sum of powers.
zero_first : (e : List ℕ) (s i : ℕ) → weigh (λ x. raise x (s + i)) (0 ∷ e) ≡ 0 → weigh (λ x. raise x (s + i)) e ≡ 0
unfolding weigh
zero_first e s i h =
    sym (ap (λ y. y ⊕ weigh (λ x. raise x (s + i)) e) (product_zero_left (raise (power (length e)) (s + i)))) ∙ h

-- The weight `without n` times a power of x is the next power plus 2^n times this power.
without_raise : (n x s i : ℕ) → without n x ⊗ raise x (s + i) ≡ raise x (s + suc i) ⊕ power n ⊗ raise x (s + i)
unfolding without raise
without_raise n x s i =
    product_sum_left x (power n) (raise x (s + i))
    ∙ ap (λ j. raise x j ⊕ power n ⊗ raise x (s + i)) (let e : suc (s + i) ≡ s + suc i = omega arith in e)

-- Where a sum is 0, the rest weighs as much as the head.
head_sum : (a : ℕ) (e : List ℕ) (f : ℕ → ℕ) → weigh f (a ∷ e) ≡ 0 → weigh f e ≡ a ⊗ f (power (length e))
unfolding weigh
head_sum a e f h = sym (sum_zero (a ⊗ f (power (length e))) (weigh f e) h)

-- Two neighbouring sums of powers that are 0 give one without the head.
eliminate : (a : ℕ) (e : List ℕ) (s i : ℕ) → weigh (λ x. raise x (s + i)) (a ∷ e) ≡ 0 →
    weigh (λ x. raise x (s + suc i)) (a ∷ e) ≡ 0
    → weigh (λ x. raise x (s + i)) (weighted (without (length e)) e) ≡ 0
unfolding raise
eliminate a e s i h g =
    let n = length e in
    let x = power n in
    weigh_weighted (λ x. raise x (s + i)) (without n) e
    ∙ weigh_same (λ x. without n x ⊗ raise x (s + i)) (λ x. raise x (s + suc i) ⊕ power n ⊗ raise x (s + i))
    (λ x. without_raise n x s i) e
    ∙ weigh_sum (λ x. raise x (s + suc i)) (λ x. power n ⊗ raise x (s + i)) e
    ∙ ap (bit_xor (weigh (λ x. raise x (s + suc i)) e)) (weigh_scale (power n) (λ x. raise x (s + i)) e
    ∙ ap (λ y. power n ⊗ y) (head_sum a e (λ x. raise x (s + i)) h) ∙ product_swap (power n) a (raise x (s + i)))
    ∙ ap (λ y. y ⊕ a ⊗ (power n ⊗ raise x (s + i))) (head_sum a e (λ x. raise x (s + suc i)) g
    ∙ ap (λ j. a ⊗ raise x j) (let q : s + suc i ≡ suc (s + i) = omega arith in q))
    ∙ xor_self (a ⊗ (power n ⊗ raise x (s + i)))

-- Before zeros, a sum of powers that is 0 leaves a head of 0.
head_zero : (a : ℕ) (e : List ℕ) (s : ℕ) → a < 256 → nonzeros e ≡ 0 → weigh (λ x. raise x s) (a ∷ e) ≡ 0 → a ≡ 0
head_zero a e s h z w =
    let x = raise (power (length e)) s in
    product_cancel x a (raise_positive (power (length e)) s (raise_positive 2 (length e) (omega arith) (omega arith))
    (raise_below 2 (length e))) (raise_below (power (length e)) s) h
    (product_comm x a ∙ sym (head_sum a e (λ x. raise x s) w) ∙ weigh_zeros (λ x. raise x s) e z)

-- The weight `without n` is 0 at no place that has fewer than n places after it.
without_positive : (n : ℕ) → n < 255 → (j : ℕ) → j < n → (0 < without n (power j)) × (without n (power j) < 256)
unfolding without
without_positive n h j l = (
  pos_of_ne-zero (λ z. power_apart j n l (omega arith) (sum_zero (power j) (power n) z)),
  sum_below (power j) (power n) (raise_below 2 j) (raise_below 2 n),
)

-- ---- The law of distance
-- A list of at most 255 bytes, of which at most m are not 0, is a list of zeros if m consecutive power sums of it are
-- 0.
pub zeros_from_sums : (n : ℕ) (e : List ℕ) (m s : ℕ) → length e ≡ n → n ≤ 255 → Bytes e → nonzeros e ≤ m
    → ((i : ℕ) → i < m → weigh (λ x. raise x (s + i)) e ≡ 0) → nonzeros e ≡ 0
unfolding nonzeros
zeros_from_sums n [] m s l h b z w = refl
zeros_from_sums zero (a ∷ e) m s l h b z w = absurd (omega arith)
zeros_from_sums (suc n) (zero ∷ e) m s l h b z w =
    zeros_from_sums n e m s (omega arith) (omega arith) (bytes_tail 0 e b) z (λ i q. zero_first e s i (w i q))
zeros_from_sums (suc n) (suc a ∷ e) zero s l h b z w = absurd (omega arith)
zeros_from_sums (suc n) (suc a ∷ e) (suc m) s l h b z w =
    let k : length e ≡ n = omega arith in
    let c : nonzeros (weighted (without (length e)) e) ≤ m = omega (arith, nonzeros_weighted (without (length e)) e) in
    let r : nonzeros (weighted (without (length e)) e) ≡ 0 =
    zeros_from_sums n (weighted (without (length e)) e) m s (length-weighted (without (length e)) e ∙ k) (omega arith)
    (bytes_weighted (without (length e)) e)
    c (λ i q. eliminate (suc a) e s i (w i (omega arith)) (w (suc i) (omega arith))) in
    let t : nonzeros e ≡ 0 =
    zeros_from_weighted (without (length e)) (length e) (without_positive (length e) (omega arith)) e
    (le_refl (length e)) (bytes_tail (suc a) e b) r in
    absurd (not_zero a (head_zero (suc a) e (s + 0) (bytes_head (suc a) e b) t (w 0 (omega arith))))
