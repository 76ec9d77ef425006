-- The places of the errors. An error list has, at each place, what was added to the codeword; a place's locator is 2 to
-- the power of the number of places after it. Read with the highest power first, the locator of every pair of the key
-- equation within few enough places is 0 at the locators of the errors, and that of the least pair only there.
use Rattle.std.proofs.Common.{◌≡◌, ℕ, zero, suc, ◌+◌, ◌-◌, ◌<◌, ◌≤◌, List, [], ◌∷◌, length, get_or, refl, sym, ap}
use Rattle.std.proofs.Common.{subst, ◌∙◌, arith, bit_xor, inl, inr}
use Rattle.std.proofs.lemmas.Bool.{cases_lt, cases_eq}
use Rattle.std.proofs.lemmas.List.{get_or_past}
use Rattle.std.proofs.Math.Nat.{pos_of_ne-zero, le_refl}
use lib.Bits.{xor_zero_r}
use Rattle.gf301.specs.Field.{◌⊕◌, ◌⊗◌, raise, power}
use Rattle.gf301.specs.Polynomial.{Bytes, value, coefficient, convolution}
use Rattle.gf301.proofs.Exported.{nonzeros, product_zero_left, product_zero_right, product_comm, product_cancel}
use Rattle.gf301.proofs.Exported.{raise_below, sum_zero, sum_below, power_injective, weighted, weigh_same}
use Rattle.gf301.proofs.Exported.{weigh_weighted, length-weighted, bytes_weighted, nonzeros_weighted, zeros_from_sums}
use Rattle.gf301.proofs.Exported.{bytes_cons, value_below, quotient, length_quotient, bytes_quotient, root_divides}
use Rattle.gf301.proofs.Exported.{value_times, factor_value, bytes_times, conv_same_right, conv_same_left, conv_below}
use Rattle.gf301.proofs.Exported.{sums, conv_laid, laid_sums, connects, locate, length-locate, head-locate}
use Rattle.gf301.proofs.Exported.{zeros-locate, zeros_parts, quotient_more, roots, roots_step, roots_le, zero_step}
use Rattle.dm_code.specs.KeyEquation.{IsPair}
use Rattle.dm_code.proofs.First.{first, first_at, first_past, bytes_first}

-- The locator of the place i of n is 2 to the power of the number of places after it.
abbrev pub locator_at : ℕ → ℕ → ℕ
locator_at n i = power (n - suc i)

-- ---- the true locator and evaluator are a pair
-- The coefficients of the true locator are bytes.
bytes_locate : (e : List ℕ) → Bytes (locate e)
unfolding locate
bytes_locate [] = bytes_cons 1 [] (omega arith) (λ k d h. absurd (omega arith))
bytes_locate (zero ∷ e) = bytes_locate e
bytes_locate (suc a ∷ e) = bytes_times (1 ∷ power (length e) ∷ []) (locate e)

-- The product of the true locator and the power sums has no coefficients from its degree on.
connects_sums : (e g : List ℕ) → length g ≡ suc (nonzeros e) → nonzeros (weighted (value g) e) ≡ 0 → (i : ℕ) →
    nonzeros e ≤ i → convolution (coefficient g) (sums e) i ≡ 0
connects_sums e [] l z i h = absurd (omega arith)
connects_sums e (a ∷ p) l z i h = connects e a p z i (omega arith)

-- The true locator and the evaluator that it gives are a pair.
pub true_pair : (e s : List ℕ) → ((i : ℕ) → i < length s → coefficient s i ≡ sums e i)
    → IsPair s (nonzeros e) (locate e) (first (convolution (coefficient (locate e)) (coefficient s)) (nonzeros e))
true_pair e s h =
    let f = convolution (coefficient (locate e)) (coefficient s) in
    record {
      locator_bytes = bytes_locate e;
      evaluator_bytes = bytes_first f (nonzeros e) (conv_below (coefficient (locate e)) (coefficient s));
      one = head-locate e;
      within = record {
        locator = λ i q. get_or_past (locate e) i 0 (omega (arith, length-locate e));
        evaluator = λ i q. first_past f (nonzeros e) i q;
      };
      equation = λ i q. elim (cases_lt i (nonzeros e)) [
        | inl b ↦ sym (first_at f (nonzeros e) i b)
        | inr b ↦
            conv_same_right (coefficient (locate e)) (coefficient s) (sums e) i (λ j r. h j (omega arith))
            ∙ connects_sums e (locate e) (length-locate e) (zeros-locate e) i b ∙ sym (first_past f (nonzeros e) i b)
      ];
    }

-- ---- what connects the sums from d on is 0 at each place that isn't 0
-- By the distance law all weights are 0 where as many consecutive power sums are 0 as there are errors.
vanishes_from : (e : List ℕ) (a : ℕ) (p : List ℕ) (d m k : ℕ) → length e ≤ 255 → nonzeros e ≤ m → length p ≤ d →
    d + m ≤ k
    → ((i : ℕ) → d ≤ i → i < k → convolution (coefficient (a ∷ p)) (sums e) i ≡ 0) →
    nonzeros (weighted (value (a ∷ p)) e) ≡ 0
vanishes_from e a p d m k h z q n g =
    let f = value (a ∷ p) in
    let o = d - length p in
    zeros_from_sums (length (weighted f e)) (weighted f e) m (suc o) refl (let q : length (weighted f e) ≤ 255 =
    omega (arith, length-weighted f e) in q)
    (bytes_weighted f e) (let q : nonzeros (weighted f e) ≤ m = omega (arith, nonzeros_weighted f e) in q)
    (λ i l. weigh_weighted (λ x. raise x (suc o + i)) f e
    ∙ weigh_same (λ x. f x ⊗ raise x (suc o + i)) (λ x. raise x (suc (o + i)) ⊗ f x)
    (λ x. product_comm (f x) (raise x (suc o + i))
    ∙ ap (λ j. raise x j ⊗ f x) (let r : suc o + i ≡ suc (o + i) = omega arith in r)) e
    ∙ sym (laid_sums e (a ∷ p) (o + i)) ∙ sym (conv_laid a p (sums e) (o + i))
    ∙ ap (convolution (coefficient (a ∷ p)) (sums e)) (let r : length p + (o + i) ≡ d + i = omega arith in r)
    ∙ g (d + i) (omega arith) (omega arith))

-- Where a weighted list is zeros, each of its elements is 0.
weighted_at : (f : ℕ → ℕ) (e : List ℕ) → nonzeros (weighted f e) ≡ 0 → (i : ℕ) → i < length e →
    get_or e i 0 ⊗ f (locator_at (length e) i) ≡ 0
unfolding weighted
weighted_at f [] z i h = absurd (omega arith)
weighted_at f (a ∷ e) z zero h =
    ap (λ n. a ⊗ f (power n)) (let r : length (a ∷ e) - 1 ≡ length e = omega arith in r)
    ∙ (zeros_parts (a ⊗ f (power (length e))) (weighted f e) z).0
weighted_at f (a ∷ e) z (suc i) h =
    ap (λ n. get_or e i 0 ⊗ f (power n)) (let r : length (a ∷ e) - suc (suc i) ≡ length e - suc i = omega arith in r)
    ∙ weighted_at f e (zeros_parts (a ⊗ f (power (length e))) (weighted f e) z).1 i (omega arith)

-- A polynomial vanishes at the errors where it is 0 at the locator of each place of e that is not 0.
abbrev pub Vanishes : List ℕ → List ℕ → Type 0
Vanishes p e = (i : ℕ) → i < length e → 0 < get_or e i 0 → value p (locator_at (length e) i) ≡ 0

-- Every pair whose bound and the number of errors together are at most the number of syndromes is 0 at the errors.
pub pair_vanishes : (e s l w : List ℕ) (a : ℕ) (p : List ℕ) (d : ℕ) → Bytes e → length e ≤ 255 →
    d + nonzeros e ≤ length s → ((i : ℕ) → i < length s → coefficient s i ≡ sums e i)
    → IsPair s d l w → ((i : ℕ) → coefficient (a ∷ p) i ≡ coefficient l i) → length p ≤ d → Vanishes (a ∷ p) e
pair_vanishes e s l w a p d b h n g q c m i y z =
    let v : nonzeros (weighted (value (a ∷ p)) e) ≡ 0 =
    vanishes_from e a p d (nonzeros e) (length s) h (le_refl (nonzeros e)) m n
    (λ j u r. conv_same_right (coefficient (a ∷ p)) (sums e) (coefficient s) j (λ o t. sym (g o (omega arith)))
    ∙ conv_same_left (coefficient (a ∷ p)) (coefficient l) (coefficient s) j (λ o t. c o) ∙ q.equation j r
    ∙ q.within.evaluator j u) in
    product_cancel (get_or e i 0) (value (a ∷ p) (locator_at (length e) i)) z (b i 0 y)
    (value_below (a ∷ p) (locator_at (length e) i)) (weighted_at (value (a ∷ p)) e v i y)

-- ---- counting roots
-- One more value does not make the number of roots smaller.
step_more : (v m : ℕ) → m ≤ roots_step v m
unfolding roots_step
step_more zero m = omega arith
step_more (suc v) m = omega arith

-- What vanishes at the errors is 0 at the first place if it is an error.
vanishes_head : (p e : List ℕ) (a : ℕ) → Vanishes p (a ∷ e) → 0 < a → value p (power (length e)) ≡ 0
vanishes_head p e a h l =
    ap (λ n. value p (power n)) (let r : length e ≡ length (a ∷ e) - 1 = omega arith in r) ∙ h 0 (omega arith) l

-- What vanishes at the errors vanishes at those after the first place.
vanishes_tail : (p e : List ℕ) (a : ℕ) → Vanishes p (a ∷ e) → Vanishes p e
vanishes_tail p e a h i l z =
    ap (λ n. value p (power n)) (let r : length e - suc i ≡ length (a ∷ e) - suc (suc i) = omega arith in r)
    ∙ h (suc i) (omega arith) z

-- There are at least as many roots as errors.
roots_counted : (p e : List ℕ) → Vanishes p e → nonzeros e ≤ roots p (length e)
unfolding nonzeros roots
roots_counted p [] h = omega arith
roots_counted p (zero ∷ e) h =
    let i : nonzeros e ≤ roots p (length e) = roots_counted p e (vanishes_tail p e 0 h) in
    omega (arith, step_more (value p (power (length e))) (roots p (length e)))
roots_counted p (suc a ∷ e) h =
    let i : nonzeros e ≤ roots p (length e) = roots_counted p e (vanishes_tail p e (suc a) h) in
    omega (
      arith,
      zero_step (value p (power (length e))) (roots p (length e))
          (vanishes_head p e (suc a) h (omega arith)),
    )

-- With a root at a place without an error, there is at least one root more than errors.
root_more_counted : (p e : List ℕ) (i : ℕ) → Vanishes p e → i < length e → get_or e i 0 ≡ 0 →
    value p (locator_at (length e) i) ≡ 0 → suc (nonzeros e) ≤ roots p (length e)
unfolding nonzeros roots
root_more_counted p [] i h l z v = absurd (omega arith)
root_more_counted p (zero ∷ e) zero h l z v =
    let c : nonzeros e ≤ roots p (length e) = roots_counted p e (vanishes_tail p e 0 h) in
    omega (
      arith,
      zero_step (value p (power (length e))) (roots p (length e))
          (ap (λ n. value p (power n)) (let r : length e ≡ length (0 ∷ e) - 1 = omega arith in r) ∙ v),
    )
root_more_counted p (suc a ∷ e) zero h l z v = absurd (omega arith)
root_more_counted p (zero ∷ e) (suc i) h l z v =
    let c : suc (nonzeros e) ≤ roots p (length e) =
    root_more_counted p e i (vanishes_tail p e 0 h) (omega arith) z
    (ap (λ n. value p (power n)) (let r : length e - suc i ≡ length (0 ∷ e) - suc (suc i) = omega arith in r)
    ∙ v) in
    omega (arith, step_more (value p (power (length e))) (roots p (length e)))
root_more_counted p (suc a ∷ e) (suc i) h l z v =
    let c : suc (nonzeros e) ≤ roots p (length e) =
    root_more_counted p e i (vanishes_tail p e (suc a) h) (omega arith) z
    (ap (λ n. value p (power n)) (let r : length e - suc i ≡ length (suc a ∷ e) - suc (suc i) = omega arith in r)
    ∙ v) in
    omega (
      arith,
      zero_step (value p (power (length e))) (roots p (length e))
          (vanishes_head p e (suc a) h (omega arith)),
    )

-- With no more coefficients than errors, the locators of the errors are the only roots.
pub not_root : (e p : List ℕ) (i : ℕ) → length e ≤ 255 → Bytes (1 ∷ p) → length p ≤ nonzeros e → Vanishes (1 ∷ p) e →
    i < length e → get_or e i 0 ≡ 0 → 0 < value (1 ∷ p) (locator_at (length e) i)
not_root e p i h b l v q z =
    pos_of_ne-zero (λ r. absurd (let c : suc (nonzeros e) ≤ roots (1 ∷ p) (length e) =
    root_more_counted (1 ∷ p) e i v q z r in omega (arith, roots_le (length e) 1 p h (omega arith) b)))

-- ---- the quotient by a root is 0 at the other places, and not at this one
-- A 0 in front of a list of bytes makes a list of bytes.
bytes_more : (p : List ℕ) → Bytes p → Bytes (0 ∷ p)
bytes_more p b = bytes_cons 0 p (omega arith) b

-- The value of the quotient by x - r at z, times z - r, is the value at z.
quotient_times : (p : List ℕ) (r z : ℕ) → Bytes p → r < 256 → z < 256 → value p r ≡ 0 →
    value (quotient r 0 p) z ⊗ (z ⊕ r) ≡ value p z
unfolding value
quotient_times p r z b h k y =
    ap (λ x. value (quotient r 0 p) z ⊗ x) (sym (factor_value r z h k))
    ∙ sym (value_times z (quotient r 0 p) (1 ∷ r ∷ []) (omega arith))
    ∙ ap (λ t. value t z) (root_divides r 0 p (bytes_more p b)
    (ap (λ x. x ⊕ value p r) (product_zero_left (raise r (length p))) ∙ y))
    ∙ ap (λ x. x ⊕ value p z) (product_zero_left (raise z (length p)))

-- The quotient by x - r vanishes at the errors but the one whose locator is r, if that is a root.
pub quotient_vanishes_but : (e p : List ℕ) (i : ℕ) → length e ≤ 255 → Bytes p → Vanishes p e → i < length e →
    value p (locator_at (length e) i) ≡ 0
    → (k : ℕ) → k < length e → 0 < get_or e k 0 → (k ≡ i → ⊥) →
    value (quotient (locator_at (length e) i) 0 p) (locator_at (length e) k) ≡ 0
quotient_vanishes_but e p i h b v l z k q y n =
    let r = locator_at (length e) i in
    let x = locator_at (length e) k in
    let rb : r < 256 = raise_below 2 (length e - suc i) in
    let xb : x < 256 = raise_below 2 (length e - suc k) in
    let d : 0 < x ⊕ r =
    pos_of_ne-zero (λ w. n (let m : length e - suc k ≡ length e - suc i =
    power_injective (length e - suc k) (length e - suc i) (omega arith) (omega arith) (sum_zero x r w) in
    omega arith)) in
    product_cancel (x ⊕ r) (value (quotient r 0 p) x) d (sum_below x r xb rb) (value_below (quotient r 0 p) x)
    (product_comm (x ⊕ r) (value (quotient r 0 p) x) ∙ quotient_times p r x b rb xb z ∙ v k q y)

-- The quotient by x - r vanishes at the errors but the one whose locator is r.
pub quotient_vanishes : (e p : List ℕ) (i : ℕ) → length e ≤ 255 → Bytes p → Vanishes p e → i < length e →
    0 < get_or e i 0
    → (k : ℕ) → k < length e → 0 < get_or e k 0 → (k ≡ i → ⊥) →
    value (quotient (locator_at (length e) i) 0 p) (locator_at (length e) k) ≡ 0
quotient_vanishes e p i h b v l z = quotient_vanishes_but e p i h b v l (v i l z)

-- The quotient begins with 0, which may be left out.
pub quotient_zero : (r a : ℕ) (p : List ℕ) (x : ℕ) → value (quotient r 0 (a ∷ p)) x ≡ value (quotient r a p) x
unfolding value quotient
quotient_zero r a p x =
    ap (λ y. y ⊕ value (quotient r (a ⊕ r ⊗ 0) p) x) (product_zero_left (raise x (length (quotient r (a ⊕ r ⊗ 0) p))))
    ∙ ap (λ y. value (quotient r y p) x) (ap (bit_xor a) (product_zero_right r) ∙ xor_zero_r a)

-- If there is an error at some place, the number of errors is not 0.
pub nonzeros_positive : (e : List ℕ) (i : ℕ) → i < length e → 0 < get_or e i 0 → 0 < nonzeros e
unfolding nonzeros
nonzeros_positive [] i h z = absurd (omega arith)
nonzeros_positive (suc a ∷ e) i h z = omega arith
nonzeros_positive (zero ∷ e) zero h z = absurd (omega arith)
nonzeros_positive (zero ∷ e) (suc i) h z = nonzeros_positive e i (omega arith) z

-- The quotient by the root of an error is not 0 at this root, since its degree is too small to vanish at all errors.
pub quotient_positive : (e p : List ℕ) (i : ℕ) → length e ≤ 255 → Bytes (1 ∷ p) → length p ≤ nonzeros e →
    Vanishes (1 ∷ p) e → i < length e → 0 < get_or e i 0
    → 0 < value (quotient (locator_at (length e) i) 0 (1 ∷ p)) (locator_at (length e) i)
quotient_positive e [] i h b l v q z =
    absurd (let c : nonzeros e ≤ roots (1 ∷ []) (length e) = roots_counted (1 ∷ []) e v in
    omega (arith, roots_le (length e) 1 [] h (omega arith) b, nonzeros_positive e i q z))
quotient_positive e (a ∷ p) i h b l v q z =
    let r = locator_at (length e) i in
    let t = quotient r 1 (a ∷ p) in
    pos_of_ne-zero (λ w. absurd (
    let m : Vanishes t e = λ k y n. elim (cases_eq k i) [
      | inl s ↦ ap (λ j. value t (locator_at (length e) j)) s ∙ sym (quotient_zero r 1 (a ∷ p) r) ∙ w
      | inr s ↦ sym (quotient_zero r 1 (a ∷ p) (locator_at (length e) k))
          ∙ quotient_vanishes e (1 ∷ a ∷ p) i h b v q z k y n s
    ] in
    let c : nonzeros e ≤ roots t (length e) = roots_counted t e m in
    let s : t ≡ 1 ∷ quotient r (a ⊕ r ⊗ 1) p = quotient_more r 1 a p in
    let u : roots (1 ∷ quotient r (a ⊕ r ⊗ 1) p) (length e) ≤ length (quotient r (a ⊕ r ⊗ 1) p) =
    roots_le (length e) 1 (quotient r (a ⊕ r ⊗ 1) p) h (omega arith) (subst Bytes s (bytes_quotient r 1 (a ∷ p) b)) in
    omega (arith, ap (λ y. roots y (length e)) s, length_quotient r (a ⊕ r ⊗ 1) p)))
