-- Pairs of the key equation: the bound that a least pair has, and that every pair is a multiple of it.
use Rattle.std.proofs.Common.{◌≡◌, ℕ, zero, suc, ◌+◌, ◌-◌, ◌*◌, ◌%◌, ◌<◌, ◌≤◌, max, List, length, refl, sym, ap, subst}
use Rattle.std.proofs.Common.{◌∙◌, arith, inl, inr}
use Rattle.std.proofs.lemmas.Bool.{cases_lt}
use Rattle.std.proofs.lemmas.List.{ext_get_or, get_or_past}
use Rattle.std.proofs.lemmas.Nat.{mod_below}
use lib.Bits.{xor_self}
use Rattle.gf301.specs.Field.{◌⊕◌, ◌⊗◌}
use Rattle.gf301.specs.Polynomial.{Bytes, coefficient, convolution}
use Rattle.gf301.proofs.Exported.{product_zero_left, product_zero_right, product_low_left, product_one_left}
use Rattle.gf301.proofs.Exported.{product_one_right, product_below, sum_zero, sum_below, conv_swap, conv_same_right}
use Rattle.gf301.proofs.Exported.{conv_same_left, conv_zero, conv_below, shift}
use Rattle.dm_code.specs.KeyEquation.{IsWithin, IsPair, IsLeastPair, IsExact}
use Rattle.dm_code.specs.KeyEquationLaws.{IsMultiple, IsSamePolynomial}
use Rattle.dm_code.proofs.Degrees.{extent, below_extent, extent_most}
use Rattle.dm_code.proofs.First.{first, first_whole, bytes_first}
use Rattle.dm_code.proofs.Multiples.{IsSeriesPair, IsLeastSeries, conv_at_zero, solution_is_multiple, nothing_shorter}
use Rattle.dm_code.proofs.Multiples.{zero_everywhere, shift_equation, less_equation, head_equation, both_zero}

-- Each coefficient of a list of bytes is a byte, past its end too.
pub byte_at : (p : List ℕ) → Bytes p → (i : ℕ) → coefficient p i < 256
byte_at p h i =
    elim (cases_lt i (length p)) [
      | inl l ↦ h i 0 l
      | inr l ↦ subst (λ x. x < 256) (sym (get_or_past p i 0 l))
          (omega arith)
    ]

-- ---- the bound of a least pair
-- A bound that is greater holds as well.
pub within_wider : (l w : List ℕ) (d t : ℕ) → d ≤ t → IsWithin d l w → IsWithin t l w
within_wider l w d t h b =
    record { locator = λ i q. b.locator i (omega arith); evaluator = λ i q. b.evaluator i (omega arith) }

-- A pair within one bound is one within another that holds for it.
pub pair_within : (s l w : List ℕ) (t d : ℕ) → IsPair s t l w → IsWithin d l w → IsPair s d l w
pair_within s l w t d p b = record {
  locator_bytes = p.locator_bytes;
  evaluator_bytes = p.evaluator_bytes;
  one = p.one;
  within = b;
  equation = p.equation;
}

-- The larger of deg l and deg w + 1 is d, and no pair has a smaller one.
pub record IsLeastAt (s : List ℕ) (t : ℕ) (l w : List ℕ) (d : ℕ) : Type 0 where
  pub within : d ≤ t
  pub pair : IsPair s d l w
  pub least : (g v : List ℕ) (e : ℕ) → IsPair s e g v → d ≤ e

-- The bound of a pair is the larger of deg l and deg w + 1.
bound : List ℕ → List ℕ → ℕ
bound l w = max (extent l - 1) (extent w)

-- A pair is within its bound.
within_bound : (l w : List ℕ) → IsWithin (bound l w) l w
unfolding bound
within_bound l w = record {
  locator = below_extent (suc (max (extent l - 1) (extent w))) l (omega arith);
  evaluator = below_extent (max (extent l - 1) (extent w)) w (omega arith);
}

-- Every number that a pair is within is at least its bound.
bound_most : (l w : List ℕ) (d : ℕ) → IsWithin d l w → bound l w ≤ d
unfolding bound
bound_most l w d b = omega (arith, extent_most (suc d) l b.locator, extent_most d w b.evaluator)

-- A least pair has a bound such that no pair has a smaller one.
pub least_at : (s l w : List ℕ) (t : ℕ) → IsLeastPair s t l w → (d : ℕ) × IsLeastAt s t l w d
least_at s l w t p =
    let m : bound l w ≤ t = bound_most l w t p.pair.within in (
      bound l w,
      record {
        within = m;
        pair = pair_within s l w t (bound l w) p.pair (within_bound l w);
        least = λ g v e q. elim (cases_lt t e) [
          | inl a ↦ omega arith
          | inr a ↦ bound_most l w e (p.least g v (pair_within s g v e t q (within_wider g v e t a q.within)) e
              q.within)
        ];
      },
    )

-- A pair with such a bound is a least pair.
pub least_from_at : (s l w : List ℕ) (t d : ℕ) → IsLeastAt s t l w d → IsLeastPair s t l w
least_from_at s l w t d p = record {
  pair = pair_within s l w d t p.pair (within_wider l w d t p.within p.pair.within);
  least = λ g v q e b. within_wider l w d e (p.least g v e (pair_within s g v t e q b)) p.pair.within;
}

-- ---- two pairs have l v = g w: they agree below k by the equation, and from k on by their degrees
-- For two pairs (l, w) and (g, v), g w and l v are equal at every place.
pub cross_products : (s l w g v : List ℕ) (d e : ℕ) → d + e ≤ length s → IsPair s d l w → IsPair s e g v → (n : ℕ) →
    convolution (coefficient g) (coefficient w) n ≡ convolution (coefficient l) (coefficient v) n
cross_products s l w g v d e h p q n =
    elim (cases_lt n (length s)) [
      | inl b ↦
          conv_same_right (coefficient g) (coefficient w) (convolution (coefficient l) (coefficient s)) n
          (λ i a. sym (p.equation i (omega arith)))
          ∙ conv_swap (coefficient g) (coefficient l) (coefficient s) n
          ∙ conv_same_right (coefficient l) (convolution (coefficient g) (coefficient s)) (coefficient v) n
          (λ i a. q.equation i (omega arith))
      | inr b ↦
          conv_zero (coefficient g) (coefficient w) n (λ i j m. elim (cases_lt e i) [
            | inl a ↦ ap (λ y. y ⊗ coefficient w j) (q.within.locator i (omega arith))
                ∙ product_zero_left (coefficient w j)
            | inr a ↦ ap (λ y. coefficient g i ⊗ y) (p.within.evaluator j (omega arith))
                ∙ product_zero_right (coefficient g i)
          ])
          ∙ sym (conv_zero (coefficient l) (coefficient v) n (λ i j m. elim (cases_lt d i) [
            | inl a ↦ ap (λ y. y ⊗ coefficient v j) (p.within.locator i (omega arith))
                ∙ product_zero_left (coefficient v j)
            | inr a ↦ ap (λ y. coefficient l i ⊗ y) (q.within.evaluator j (omega arith))
                ∙ product_zero_right (coefficient l i)
          ]))
    ]

-- ---- pairs of series as pairs of lists of bytes
-- A byte is its low byte.
low_byte : (x : ℕ) → x < 256 → x % 256 ≡ x
low_byte x h = omega arith

-- A product is the same when each coefficient is replaced by its low byte.
low_conv : (f s : ℕ → ℕ) (n : ℕ) → convolution (λ i. f i % 256) s n ≡ convolution f s n
unfolding convolution
low_conv f s zero = product_low_left (f 0) (s 0)
low_conv f s (suc n) =
    ap (λ y. y ⊕ convolution (λ i. f (suc i) % 256) s n) (product_low_left (f 0) (s (suc n)))
    ∙ ap (λ y. f 0 ⊗ s (suc n) ⊕ y) (low_conv (shift f) s n)

-- A pair of series gives a pair of lists of bytes.
pub pair_of_series : (s : List ℕ) (f v : ℕ → ℕ) (e : ℕ) → IsSeriesPair f v (coefficient s) e (length s) →
    IsPair s e (first (λ i. f i % 256) (suc e)) (first (λ i. v i % 256) e)
pair_of_series s f v e p =
    let cf : (i : ℕ) → coefficient (first (λ i. f i % 256) (suc e)) i ≡ f i % 256 =
    first_whole (λ i. f i % 256) (suc e) (λ i h. ap (λ x. x % 256) (p.degree i (omega arith))) in
    let cv : (i : ℕ) → coefficient (first (λ i. v i % 256) e) i ≡ v i % 256 =
    first_whole (λ i. v i % 256) e (λ i h. ap (λ x. x % 256) (p.short i h)) in
    record {
      locator_bytes = bytes_first (λ i. f i % 256) (suc e) (λ i. mod_below (f i) 256 (omega arith));
      evaluator_bytes = bytes_first (λ i. v i % 256) e (λ i. mod_below (v i) 256 (omega arith));
      one = cf 0 ∙ ap (λ x. x % 256) p.one;
      within = record {
        locator = λ i h. cf i ∙ ap (λ x. x % 256) (p.degree i (omega arith));
        evaluator = λ i h. cv i ∙ ap (λ x. x % 256) (p.short i h);
      };
      equation = λ i h.
          let b : v i < 256 = subst (λ x. x < 256) (p.gives i h) (conv_below f (coefficient s) i) in
          conv_same_left (coefficient (first (λ i. f i % 256) (suc e))) (λ i. f i % 256) (coefficient s) i (λ j q. cf j)
          ∙ low_conv f (coefficient s) i ∙ p.gives i h ∙ sym (low_byte (v i) b) ∙ sym (cv i);
    }

-- A least pair is least among pairs of series too.
series_least : (s l w : List ℕ) (t d : ℕ) → IsLeastAt s t l w d →
    IsLeastSeries (coefficient l) (coefficient w) (coefficient s) d (length s)
series_least s l w t d p = (
  record {
    one = p.pair.one;
    degree = λ i h. p.pair.within.locator i (omega arith);
    short = p.pair.within.evaluator;
    gives = p.pair.equation;
  },
  λ f v e q. p.least (first (λ i. f i % 256) (suc e)) (first (λ i. v i % 256) e) e (pair_of_series s f v e q),
)

-- ---- every pair is a multiple of the least one
-- With 2 t at most the number of syndromes, every pair is a multiple of a pair with the least bound.
multiple_at : (s l w g v : List ℕ) (t d : ℕ) → 2 * t ≤ length s → IsLeastAt s t l w d → IsPair s t g v →
    IsMultiple l w g v
multiple_at s l w g v t d h p q =
    let r : (f : List ℕ) × ((i : ℕ) → coefficient g i ≡ convolution (coefficient f) (coefficient l) i)
    × ((i : ℕ) → coefficient v i ≡ convolution (coefficient f) (coefficient w) i) =
    solution_is_multiple (coefficient l) (coefficient w) (coefficient s) d (length s) (series_least s l w t d p) (suc t)
    (coefficient g) (coefficient v)
    (byte_at g q.locator_bytes) (byte_at v q.evaluator_bytes) (λ i a. q.within.locator i (omega arith))
    (λ i a. q.within.evaluator i (omega arith))
    (cross_products s l w g v d t (omega (arith, p.within)) p.pair q) in
    let m = λ (i : ℕ). coefficient r.0 i % 256 in
    let c : (i : ℕ) → coefficient (first m (length r.0)) i ≡ coefficient r.0 i % 256 =
    first_whole m (length r.0) (λ i a. ap (λ x. x % 256) (get_or_past r.0 i 0 a)) in
    let e : (f : ℕ → ℕ) (i : ℕ) → convolution (coefficient r.0) f i ≡
    convolution (coefficient (first m (length r.0))) f i =
    λ f i. sym (low_conv (coefficient r.0) f i) ∙ sym
    (conv_same_left (coefficient (first m (length r.0))) m f i (λ j b. c j)) in
    record {
      factor = first m (length r.0);
      bytes = bytes_first m (length r.0) (λ i. mod_below (coefficient r.0 i) 256 (omega arith));
      one =
          let b : coefficient (first m (length r.0)) 0 < 256 =
          subst (λ x. x < 256) (sym (c 0)) (mod_below (coefficient r.0 0) 256 (omega arith)) in
          sym (product_one_right (coefficient (first m (length r.0)) 0) b)
          ∙ ap (λ x. coefficient (first m (length r.0)) 0 ⊗ x) (sym p.pair.one)
          ∙ sym (conv_at_zero (coefficient (first m (length r.0))) (coefficient l)) ∙ sym (e (coefficient l) 0)
          ∙ sym (r.1 0) ∙ q.one;
      locator = λ i. r.1 i ∙ e (coefficient l) i;
      evaluator = λ i. r.2 i ∙ e (coefficient w) i;
    }

-- Every pair is a multiple of the least pair.
pub every_multiple : (s l w g v : List ℕ) (t : ℕ) → 2 * t ≤ length s → IsLeastPair s t l w → IsPair s t g v →
    IsMultiple l w g v
every_multiple s l w g v t h p q =
    let a = least_at s l w t p in multiple_at s l w g v t a.0 h a.1 q

-- ---- two least pairs are equal: their difference, with the factor x divided out, is shorter than either

-- Two elements whose sum is 0 are equal.
sum_same : (a b : ℕ) → a < 256 → b < 256 → a ⊕ 1 ⊗ b ≡ 0 → b ≡ a
sum_same a b ha hb h = sym (sum_zero a (1 ⊗ b) h ∙ product_one_left b hb)

-- A difference of least pairs that begins with 0 is 0 everywhere.
shorter_nothing : (l w s : ℕ → ℕ) (d c k : ℕ) (a b : ℕ → ℕ) → IsLeastSeries l w s d k → d ≡ c → ((i : ℕ) → a i < 256) →
    ((i : ℕ) → b i < 256) → a 0 ≡ 0 → b 0 ≡ 0
    → ((i : ℕ) → d < i → a i ≡ 0) → ((i : ℕ) → d ≤ i → b i ≡ 0) → ((n : ℕ) → convolution a w n ≡ convolution l b n) →
    ((i : ℕ) → a i ≡ 0) × ((i : ℕ) → b i ≡ 0)
shorter_nothing l w s d zero k a b m h ab bb za zb da db y =
    (zero_everywhere a za (λ i. da (suc i) (omega arith)), λ i. db i (omega arith))
shorter_nothing l w s d (suc c) k a b m h ab bb za zb da db y =
    let r : ((i : ℕ) → a (suc i) ≡ 0) × ((i : ℕ) → b (suc i) ≡ 0) =
    nothing_shorter l w s d k m c (omega arith) (shift a) (shift b) (λ i. ab (suc i)) (λ i. bb (suc i))
    (λ i q. da (suc i) (omega arith)) (λ i q. db (suc i) (omega arith))
    (shift_equation l w a b za zb y) in
    (zero_everywhere a za r.0, zero_everywhere b zb r.1)

-- The locators and the evaluators of two least pairs are the same.
difference_zero : (s l w g v : List ℕ) (d c : ℕ) →
    IsLeastSeries (coefficient l) (coefficient w) (coefficient s) d (length s) → IsPair s d l w → IsPair s d g v
    → ((n : ℕ) → convolution (coefficient g) (coefficient w) n ≡ convolution (coefficient l) (coefficient v) n) → d ≡ c
    → ((i : ℕ) → coefficient g i ⊕ 1 ⊗ coefficient l i ≡ 0) × ((i : ℕ) → coefficient v i ⊕ 1 ⊗ coefficient w i ≡ 0)
difference_zero s l w g v d c m p q x h =
    let a = λ (i : ℕ). coefficient g i ⊕ 1 ⊗ coefficient l i in
    let b = λ (i : ℕ). coefficient v i ⊕ 1 ⊗ coefficient w i in
    let ab : (i : ℕ) → a i < 256 =
    λ i. sum_below (coefficient g i) (1 ⊗ coefficient l i) (byte_at g q.locator_bytes i)
    (product_below 1 (coefficient l i)) in
    let bb : (i : ℕ) → b i < 256 =
    λ i. sum_below (coefficient v i) (1 ⊗ coefficient w i) (byte_at v q.evaluator_bytes i)
    (product_below 1 (coefficient w i)) in
    let y : (n : ℕ) → convolution a (coefficient w) n ≡ convolution (coefficient l) b n =
    less_equation (coefficient l) (coefficient w) (coefficient g) (coefficient v) 1 x in
    let za : a 0 ≡ 0 =
    ap (λ z. z ⊕ 1 ⊗ coefficient l 0) q.one ∙ ap (λ z. 1 ⊕ 1 ⊗ z) p.one
    ∙ ap (λ z. 1 ⊕ z) (product_one_left 1 (omega arith)) ∙ xor_self 1 in
    let zb : b 0 ≡ 0 =
    head_equation (coefficient l) (coefficient w) a b p.one (bb 0) y ∙ ap (λ z. z ⊗ coefficient w 0) za
    ∙ product_zero_left (coefficient w 0) in
    let da : (i : ℕ) → d < i → a i ≡ 0 =
    λ i r. both_zero 1 (coefficient g i) (coefficient l i) (q.within.locator i (omega arith))
    (p.within.locator i (omega arith)) in
    let db : (i : ℕ) → d ≤ i → b i ≡ 0 =
    λ i r. both_zero 1 (coefficient v i) (coefficient w i) (q.within.evaluator i r) (p.within.evaluator i r) in
    shorter_nothing (coefficient l) (coefficient w) (coefficient s) d c (length s) a b m h ab bb za zb da db y

-- Two pairs with the least bounds are equal as polynomials.
one_at : (s l w g v : List ℕ) (t d e : ℕ) → 2 * t ≤ length s → IsLeastAt s t l w d → IsLeastAt s t g v e →
    IsSamePolynomial l g × IsSamePolynomial w v
one_at s l w g v t d e h p q =
    let a : d ≤ e = p.least g v e q.pair in
    let b : e ≤ d = q.least l w d p.pair in
    let k : e ≡ d = omega arith in
    let r : IsPair s d g v = subst (λ n. IsPair s n g v) k q.pair in
    let z =
    difference_zero s l w g v d d (series_least s l w t d p) p.pair r
    (cross_products s l w g v d d (omega (arith, p.within)) p.pair r) refl in (
      λ i. sum_same (coefficient g i) (coefficient l i) (byte_at g r.locator_bytes i) (byte_at l p.pair.locator_bytes i)
          (z.0 i),
      λ i. sum_same (coefficient v i) (coefficient w i) (byte_at v r.evaluator_bytes i)
          (byte_at w p.pair.evaluator_bytes i) (z.1 i),
    )

-- Two least pairs are equal as polynomials.
pub one_least : (s l w g v : List ℕ) (t : ℕ) → 2 * t ≤ length s → IsLeastPair s t l w → IsLeastPair s t g v →
    IsSamePolynomial l g × IsSamePolynomial w v
one_least s l w g v t h p q =
    let a = least_at s l w t p in let b = least_at s g v t q in one_at s l w g v t a.0 b.0 h a.1 b.1

-- ---- lists with no number too many
-- Lists with no number too many are within the length of their evaluator.
exact_within : (l w : List ℕ) → IsExact l w → IsWithin (length w) l w
exact_within l w h =
    record { locator = λ i q. get_or_past l i 0 (omega (arith, h.locator)); evaluator = λ i q. get_or_past w i 0 q }

-- A bound of a pair is one of the same pair in other lists.
same_within : (l w g v : List ℕ) (d : ℕ) → IsSamePolynomial l g × IsSamePolynomial w v → IsWithin d l w → IsWithin d g v
same_within l w g v d h b =
    record { locator = λ i q. sym (h.0 i) ∙ b.locator i q; evaluator = λ i q. sym (h.1 i) ∙ b.evaluator i q }

-- Two least pairs in lists with no number too many are the same lists.
pub exact_one : (s l w g v : List ℕ) (t : ℕ) → 2 * t ≤ length s → IsLeastPair s t l w → IsLeastPair s t g v →
    IsExact l w → IsExact g v → (l ≡ g) × (w ≡ v)
exact_one s l w g v t h p q x y =
    let e = one_least s l w g v t h p q in
    let a : length v ≤ length w = y.evaluator (length w) (same_within l w g v (length w) e (exact_within l w x)) in
    let b : length w ≤ length v =
    x.evaluator (length v) (same_within g v l w (length v) (λ i. sym (e.0 i), λ i. sym (e.1 i))
    (exact_within g v y)) in (
      ext_get_or 0 l g (omega (arith, x.locator, y.locator)) (λ i m. e.0 i),
      ext_get_or 0 w v (omega arith) (λ i m. e.1 i),
    )
