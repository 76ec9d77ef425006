-- Roots of polynomials among the powers of 2: not more than the degree.
use Rattle.std.proofs.Common.{◌≡◌, ℕ, zero, suc, ◌<◌, ◌≤◌, List, [], ◌∷◌, length, get_or, bit_xor, ◌≢◌, All, AllPairs}
use Rattle.std.proofs.Common.{refl, sym, ap, subst, ◌∙◌, arith, inl, inr}
use lib.Bits.{xor_zero_r}
use Rattle.std.proofs.Math.Nat.{pos_of_ne-zero, le_refl}
use Rattle.std.proofs.lemmas.Bool.{cases_eq}
use Rattle.gf301.specs.Field.{◌⊕◌, ◌⊗◌, raise, power}
use Rattle.gf301.specs.Polynomial.{value, Bytes}
use Rattle.gf301.proofs.FieldLaws.{positive_not, product_comm, product_one_right, product_zero_right, product_cancel}
use Rattle.gf301.proofs.FieldLaws.{sum_zero, sum_below, raise_below, power_apart}
use Rattle.gf301.proofs.Weights.{bytes_head, bytes_tail}
use Rattle.gf301.proofs.PolyLaws.{carry, bytes_carry, quotient, length_quotient, bytes_quotient, root_divides}
use Rattle.gf301.proofs.PolyLaws.{value_times, value_below, factor_value}

-- ---- A polynomial whose highest coefficient isn't 0 has no more roots among the powers below n than its degree
-- A root is counted where a value v is 0.
unfoldable pub roots_step : ℕ → ℕ → ℕ
roots_step zero m = suc m
roots_step (suc v) m = m

-- The roots among the powers of 2 with exponents below n are counted.
unfoldable pub roots : List ℕ → ℕ → ℕ
roots p zero = 0
roots p (suc n) = roots_step (value p (power n)) (roots p n)

-- What is not 0 is no root.
positive_step : (v m : ℕ) → 0 < v → roots_step v m ≡ m
unfolding roots_step
positive_step zero m h = absurd (omega arith)
positive_step (suc v) m h = refl

-- What is 0 is a root.
pub zero_step : (v m : ℕ) → v ≡ 0 → roots_step v m ≡ suc m
unfolding roots_step
zero_step zero m h = refl
zero_step (suc v) m h = absurd (omega arith)

-- Where each root is kept, the number of roots does not fall.
step_le : (v w m n : ℕ) → (v ≡ 0 → w ≡ 0) → m ≤ n → roots_step v m ≤ roots_step w n
unfolding roots_step
step_le zero zero m n h l = omega arith
step_le zero (suc w) m n h l = absurd (let e : suc w ≡ 0 = h refl in omega arith)
step_le (suc v) zero m n h l = omega arith
step_le (suc v) (suc w) m n h l = l

-- A constant other than 0 has no root.
single_root : (b n : ℕ) → 0 < b → b < 256 → roots (b ∷ []) n ≡ 0
unfolding roots roots_step value raise
single_root b zero l h = refl
single_root b (suc n) l h =
    ap (λ v. roots_step v (roots (b ∷ []) n)) (xor_zero_r (b ⊗ 1) ∙ product_one_right b h)
    ∙ positive_step b (roots (b ∷ []) n) l ∙ single_root b n l h

-- The quotient by x - r keeps the roots other than r.
kept_roots : (r b a : ℕ) (p : List ℕ) (n j : ℕ) → Bytes (b ∷ a ∷ p) → r ≡ power j → n ≤ j → j < 255 →
    value (b ∷ a ∷ p) r ≡ 0 → roots (b ∷ a ∷ p) n ≤ roots (quotient r b (a ∷ p)) n
unfolding roots
kept_roots r b a p zero j y e h l z = omega arith
kept_roots r b a p (suc n) j y e h l z =
    step_le (value (b ∷ a ∷ p) (power n)) (value (quotient r b (a ∷ p)) (power n)) (roots (b ∷ a ∷ p) n)
    (roots (quotient r b (a ∷ p)) n)
    (λ q. product_cancel (power n ⊕ r) (value (quotient r b (a ∷ p)) (power n))
    (pos_of_ne-zero (λ w. power_apart n j (omega arith) (omega arith) (sum_zero (power n) r w ∙ e)))
    (sum_below (power n) r (raise_below 2 n) (subst (λ x. x < 256) (sym e) (raise_below 2 j)))
    (value_below (quotient r b (a ∷ p)) (power n))
    (product_comm (power n ⊕ r) (value (quotient r b (a ∷ p)) (power n))
    ∙ ap (λ x. value (quotient r b (a ∷ p)) (power n) ⊗ x)
    (sym (factor_value r (power n) (subst (λ x. x < 256) (sym e) (raise_below 2 j)) (raise_below 2 n)))
    ∙ sym (value_times (power n) (quotient r b (a ∷ p)) (1 ∷ r ∷ []) (omega arith))
    ∙ ap (λ t. value t (power n)) (root_divides r b (a ∷ p) y z) ∙ q))
    (kept_roots r b a p n j y e (omega arith) l z)

-- The quotient begins with what is carried, and the division goes on with the rest.
pub quotient_more : (r b a : ℕ) (p : List ℕ) → quotient r b (a ∷ p) ≡ b ∷ quotient r (a ⊕ r ⊗ b) p
unfolding quotient
quotient_more r b a p = refl

-- A constant other than 0 is nowhere 0.
no_root : (b x : ℕ) → 0 < b → b < 256 → value (b ∷ []) x ≡ 0 → ⊥
unfolding value raise
no_root b x l h z = positive_not l (sym (product_one_right b h) ∙ sym (xor_zero_r (b ⊗ 1)) ∙ z)

-- There are at most as many roots as the degree.
pub roots_le : (n b : ℕ) (p : List ℕ) → n ≤ 255 → 0 < b → Bytes (b ∷ p) → roots (b ∷ p) n ≤ length p
unfolding roots
roots_le zero b p h l y = omega arith
roots_le (suc n) b [] h l y =
    elim (cases_eq (value (b ∷ []) (power n)) 0) [
      | inl z ↦ absurd (no_root b (power n) l (bytes_head b [] y) z)
      | inr z ↦ subst (λ m. m ≤ 0) (sym (positive_step (value (b ∷ []) (power n)) (roots (b ∷ []) n)
          (pos_of_ne-zero z))) (roots_le n b [] (omega arith) l y)
    ]
roots_le (suc n) b (a ∷ p) h l y =
    let q = quotient (power n) (a ⊕ power n ⊗ b) p in
    elim (cases_eq (value (b ∷ a ∷ p) (power n)) 0) [
      | inl z ↦
          let t : roots (b ∷ a ∷ p) n ≤ roots (quotient (power n) b (a ∷ p)) n =
          kept_roots (power n) b a p n n y refl (le_refl n) (omega arith) z in
          let u : roots (b ∷ q) n ≤ length q =
          roots_le n b q (omega arith) l (subst Bytes (quotient_more (power n) b a p)
          (bytes_quotient (power n) b (a ∷ p) y)) in
          let v : roots (quotient (power n) b (a ∷ p)) n ≡ roots (b ∷ q) n =
          ap (λ t. roots t n) (quotient_more (power n) b a p) in
          let w : roots_step (value (b ∷ a ∷ p) (power n)) (roots (b ∷ a ∷ p) n) ≡ suc (roots (b ∷ a ∷ p) n) =
          zero_step (value (b ∷ a ∷ p) (power n)) (roots (b ∷ a ∷ p) n) z in
          omega (arith, length_quotient (power n) (a ⊕ power n ⊗ b) p)
      | inr z ↦ subst (λ m. m ≤ suc (length p)) (sym
          (positive_step (value (b ∷ a ∷ p) (power n)) (roots (b ∷ a ∷ p) n) (pos_of_ne-zero z)))
          (roots_le n b (a ∷ p) (omega arith) l y)
    ]

-- ---- With as many different roots as coefficients, each coefficient is 0
-- A list of zeros with one more 0 in front is a list of zeros.
all_zero_cons : (a : ℕ) (p : List ℕ) → a ≡ 0 → All (λ c. c ≡ 0) p → All (λ c. c ≡ 0) (a ∷ p)
all_zero_cons a p e h zero d l = e
all_zero_cons a p e h (suc k) d l = h k d (omega arith)

-- Where a quotient by x - r is 0, and r is a root, the dividend is 0.
zeros_from_quotient : (r b : ℕ) (p : List ℕ) → Bytes (b ∷ p) → value (b ∷ p) r ≡ 0 → All (λ c. c ≡ 0) (quotient r b p) →
    All (λ c. c ≡ 0) (b ∷ p)
unfolding quotient value raise
zeros_from_quotient r b [] hb h z =
    all_zero_cons b [] (sym (product_one_right b (bytes_head b [] hb)) ∙ sym (xor_zero_r (b ⊗ 1)) ∙ h)
    (λ k d l. absurd (omega arith))
zeros_from_quotient r b (a ∷ p) hb h z =
    let e : b ≡ 0 = z 0 0 (omega arith) in
    let c : a ⊕ r ⊗ b ≡ a = ap (λ y. a ⊕ r ⊗ y) e ∙ ap (bit_xor a) (product_zero_right r) ∙ xor_zero_r a in
    let t : All (λ c. c ≡ 0) ((a ⊕ r ⊗ b) ∷ p) =
    zeros_from_quotient r (a ⊕ r ⊗ b) p (bytes_carry r b a p hb) (carry r b a p h)
    (λ k d l. z (suc k) d (omega arith)) in
    all_zero_cons b (a ∷ p) e (subst (λ y. All (λ c. c ≡ 0) (y ∷ p)) c t)

-- The quotient by x - r keeps each other root.
other_root : (r s b : ℕ) (p : List ℕ) → r < 256 → s < 256 → (r ≡ s → ⊥) → Bytes (b ∷ p) → value (b ∷ p) r ≡ 0 →
    value (b ∷ p) s ≡ 0 → value (quotient r b p) s ≡ 0
other_root r s b p hr hs d hb zr zs =
    let q = quotient r b p in
    product_cancel (s ⊕ r) (value q s) (pos_of_ne-zero (λ w. d (sym (sum_zero s r w)))) (sum_below s r hs hr)
    (value_below q s)
    (product_comm (s ⊕ r) (value q s) ∙ ap (λ x. value q s ⊗ x) (sym (factor_value r s hr hs))
    ∙ sym (value_times s q (1 ∷ r ∷ []) (omega arith)) ∙ ap (λ t. value t s) (root_divides r b p hb zr) ∙ zs)

-- With as many different roots as coefficients, each coefficient is 0.
pub roots_are_few : (p roots : List ℕ) → Bytes p → Bytes roots → AllPairs (λ r s. r ≢ s) roots →
    All (λ r. value p r ≡ 0) roots → length p ≤ length roots → All (λ a. a ≡ 0) p
roots_are_few [] rs hp hr d v l = λ k e h. absurd (omega arith)
roots_are_few (b ∷ p) [] hp hr d v l = absurd (omega arith)
roots_are_few (b ∷ p) (r ∷ rs) hp hr d v l =
    let z : value (b ∷ p) r ≡ 0 = v 0 0 (omega arith) in
    zeros_from_quotient r b p hp z
    (roots_are_few (quotient r b p) rs (bytes_quotient r b p hp) (bytes_tail r rs hr)
    (λ i j e m n. d (suc i) (suc j) e (omega arith) (omega arith))
    (λ k e h. other_root r (get_or rs k e) b p (bytes_head r rs hr) (bytes_tail r rs hr k e h)
    (d 0 (suc k) e (omega arith) (omega arith)) hp z (v (suc k) e (omega arith)))
    (omega (arith, length_quotient r b p)))
