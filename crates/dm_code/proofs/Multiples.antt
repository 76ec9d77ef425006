-- Every pair is a multiple of the least pair.
use Rattle.std.proofs.Common.{◌≡◌, ℕ, zero, suc, ◌<◌, ◌≤◌, List, [], ◌∷◌, refl, sym, ap, ◌∙◌, arith, bit_xor, inl, inr}
use Rattle.std.proofs.lemmas.Bool.{cases_lt, cases_eq}
use Rattle.std.proofs.Math.Nat.{pos_of_ne-zero}
use lib.Bits.{xor_assoc, xor_comm, xor_self, xor_zero_r}
use Rattle.gf301.specs.Field.{◌⊕◌, ◌⊗◌}
use Rattle.gf301.proofs.Exported.{product_zero_left, product_zero_right, product_one_left, product_one_right}
use Rattle.gf301.proofs.Exported.{product_comm, product_inverse, inverse_of, sum_zero, sum_below, product_below}
use Rattle.gf301.proofs.Exported.{conv_sum_left, conv_scale_left, conv_below, conv_comm, conv_swap, conv_same_right}
use Rattle.gf301.proofs.Exported.{conv_zero, shift}
use Rattle.gf301.specs.Polynomial.{convolution, coefficient}

-- The series l and w are a pair for the first k coefficients of s, of length d.
pub record IsSeriesPair (l w s : ℕ → ℕ) (d k : ℕ) : Type 0 where
  pub one : l 0 ≡ 1
  pub degree : (i : ℕ) → d < i → l i ≡ 0
  pub short : (i : ℕ) → d ≤ i → w i ≡ 0
  pub gives : (i : ℕ) → i < k → convolution l s i ≡ w i

-- A pair of series is a least one if no pair has a smaller bound.
abbrev pub IsLeastSeries : (ℕ → ℕ) → (ℕ → ℕ) → (ℕ → ℕ) → ℕ → ℕ → Type 0
IsLeastSeries l w s d k = IsSeriesPair l w s d k × ((g v : ℕ → ℕ) (e : ℕ) → IsSeriesPair g v s e k → d ≤ e)

-- The product with a sum is the sum of the products.
conv_sum_right : (f g h : ℕ → ℕ) (n : ℕ) → convolution f (λ i. g i ⊕ h i) n ≡ convolution f g n ⊕ convolution f h n
conv_sum_right f g h n =
    conv_comm f (λ i. g i ⊕ h i) n ∙ conv_sum_left g h f n ∙ ap (λ y. y ⊕ convolution h f n) (conv_comm g f n)
    ∙ ap (bit_xor (convolution f g n)) (conv_comm h f n)

-- The product with a series that begins with 0 is the product with the rest of it, one place later.
conv_head : (f g : ℕ → ℕ) (n : ℕ) → f 0 ≡ 0 → convolution f g (suc n) ≡ convolution (shift f) g n
unfolding convolution
conv_head f g n e =
    ap (λ y. y ⊗ g (suc n) ⊕ convolution (shift f) g n) e
    ∙ ap (λ y. y ⊕ convolution (shift f) g n) (product_zero_left (g (suc n)))

-- The first coefficient of a product is the product of the first coefficients.
pub conv_at_zero : (f g : ℕ → ℕ) → convolution f g 0 ≡ f 0 ⊗ g 0
unfolding convolution
conv_at_zero f g = refl

-- A series whose product with one that begins with 1 is 0 up to a place is itself 0 up to there.
unit_zero : (l f : ℕ → ℕ) (k : ℕ) → l 0 ≡ 1 → ((i : ℕ) → f i < 256) → ((i : ℕ) → i < k → convolution l f i ≡ 0) →
    (i : ℕ) → i < k → f i ≡ 0
unit_zero l f zero e b h i m = absurd (omega arith)
unit_zero l f (suc k) e b h zero m =
    sym (ap (λ y. y ⊗ f 0) e ∙ product_one_left (f 0) (b 0)) ∙ sym (conv_at_zero l f) ∙ h 0 m
unit_zero l f (suc k) e b h (suc i) m =
    let z : f 0 ≡ 0 =
    sym (ap (λ y. y ⊗ f 0) e ∙ product_one_left (f 0) (b 0)) ∙ sym (conv_at_zero l f) ∙ h 0 (omega arith) in
    unit_zero l (shift f) k e (λ i. b (suc i))
    (λ i q. conv_comm l (shift f) i ∙ sym (conv_head f l i z) ∙ conv_comm f l (suc i) ∙ h (suc i) (omega arith)) i
    (omega arith)

-- Where a * w = l * b, and the pair l, w is given, a and b solve the same equation.
same_equation : (l w s a b : ℕ → ℕ) (d k : ℕ) → IsSeriesPair l w s d k → ((i : ℕ) → b i < 256) →
    ((n : ℕ) → convolution a w n ≡ convolution l b n) → (i : ℕ) → i < k → convolution a s i ≡ b i
same_equation l w s a b d k p hb e i h =
    sum_zero (convolution a s i) (b i)
    (unit_zero l (λ i. convolution a s i ⊕ b i) k p.one
    (λ i. sum_below (convolution a s i) (b i) (conv_below a s i) (hb i))
    (λ n q. conv_sum_right l (convolution a s) b n
    ∙ ap (λ y. y ⊕ convolution l b n) (conv_swap l a s n
    ∙ conv_same_right a (convolution l s) w n (λ j r. p.gives j (omega arith)) ∙ e n)
    ∙ xor_self (convolution l b n)) i h)

-- A series that is 0 at the first place and at all later ones is 0 everywhere.
pub zero_everywhere : (f : ℕ → ℕ) → f 0 ≡ 0 → ((i : ℕ) → f (suc i) ≡ 0) → (i : ℕ) → f i ≡ 0
zero_everywhere f z h zero = z
zero_everywhere f z h (suc i) = h i

-- Where a * w = l * b, the first coefficient of b is the product of those of a and w.
pub head_equation : (l w a b : ℕ → ℕ) → l 0 ≡ 1 → b 0 < 256 → ((n : ℕ) → convolution a w n ≡ convolution l b n) →
    b 0 ≡ a 0 ⊗ w 0
head_equation l w a b o h e =
    sym (product_one_left (b 0) h) ∙ ap (λ y. y ⊗ b 0) (sym o) ∙ sym (conv_at_zero l b) ∙ sym (e 0) ∙ conv_at_zero a w

-- Where these first coefficients are 0, x can be divided out of the equation.
pub shift_equation : (l w a b : ℕ → ℕ) → a 0 ≡ 0 → b 0 ≡ 0 → ((n : ℕ) → convolution a w n ≡ convolution l b n) →
    (n : ℕ) → convolution (shift a) w n ≡ convolution l (shift b) n
shift_equation l w a b za zb e n =
    sym (conv_head a w n za) ∙ e (suc n) ∙ conv_comm l b (suc n) ∙ conv_head b l n zb ∙ conv_comm (shift b) l n

-- Divided by its first coefficient, a solution of the equation is a pair.
scaled_pair : (l w s : ℕ → ℕ) (d k c : ℕ) (a b : ℕ → ℕ) → IsSeriesPair l w s d k → 0 < a 0 → ((i : ℕ) → a i < 256) →
    ((i : ℕ) → b i < 256)
    → ((i : ℕ) → c < i → a i ≡ 0) → ((i : ℕ) → c ≤ i → b i ≡ 0) → ((n : ℕ) → convolution a w n ≡ convolution l b n)
    → IsSeriesPair (λ i. inverse_of (a 0) ⊗ a i) (λ i. inverse_of (a 0) ⊗ b i) s c k
scaled_pair l w s d k c a b p h ha hb da db e = record {
  one = product_comm (inverse_of (a 0)) (a 0) ∙ product_inverse (a 0) h (ha 0);
  degree = λ i q. ap (λ y. inverse_of (a 0) ⊗ y) (da i q) ∙ product_zero_right (inverse_of (a 0));
  short = λ i q. ap (λ y. inverse_of (a 0) ⊗ y) (db i q) ∙ product_zero_right (inverse_of (a 0));
  gives =
      λ i q. conv_scale_left (inverse_of (a 0)) a s i
      ∙ ap (λ y. inverse_of (a 0) ⊗ y) (same_equation l w s a b d k p hb e i q);
}

-- A solution of the equation that is shorter than the least pair begins with zeros.
heads_nothing : (l w s : ℕ → ℕ) (d k : ℕ) → IsLeastSeries l w s d k → (c : ℕ) → c < d → (a b : ℕ → ℕ) →
    ((i : ℕ) → a i < 256) → ((i : ℕ) → b i < 256)
    → ((i : ℕ) → c < i → a i ≡ 0) → ((i : ℕ) → c ≤ i → b i ≡ 0) → ((n : ℕ) → convolution a w n ≡ convolution l b n) →
    (a 0 ≡ 0) × (b 0 ≡ 0)
heads_nothing l w s d k p c h a b ha hb da db e =
    let z : a 0 ≡ 0 =
    elim (cases_eq (a 0) 0) [
      | inl q ↦ q
      | inr q ↦ absurd (let m : d ≤ c =
          p.1 (λ i. inverse_of (a 0) ⊗ a i) (λ i. inverse_of (a 0) ⊗ b i) c
          (scaled_pair l w s d k c a b p.0 (pos_of_ne-zero q) ha hb da db e) in omega arith)
    ] in
    (z, head_equation l w a b p.0.one (hb 0) e ∙ ap (λ x. x ⊗ w 0) z ∙ product_zero_left (w 0))

-- A solution of the equation that is shorter than the least pair is 0 everywhere.
pub nothing_shorter : (l w s : ℕ → ℕ) (d k : ℕ) → IsLeastSeries l w s d k → (c : ℕ) → c < d → (a b : ℕ → ℕ) →
    ((i : ℕ) → a i < 256) → ((i : ℕ) → b i < 256)
    → ((i : ℕ) → c < i → a i ≡ 0) → ((i : ℕ) → c ≤ i → b i ≡ 0) → ((n : ℕ) → convolution a w n ≡ convolution l b n)
    → ((i : ℕ) → a i ≡ 0) × ((i : ℕ) → b i ≡ 0)
nothing_shorter l w s d k p zero h a b ha hb da db e =
    let z : (a 0 ≡ 0) × (b 0 ≡ 0) = heads_nothing l w s d k p 0 h a b ha hb da db e in
    (zero_everywhere a z.0 (λ i. da (suc i) (omega arith)), λ i. db i (omega arith))
nothing_shorter l w s d k p (suc c) h a b ha hb da db e =
    let z : (a 0 ≡ 0) × (b 0 ≡ 0) = heads_nothing l w s d k p (suc c) h a b ha hb da db e in
    let r : ((i : ℕ) → a (suc i) ≡ 0) × ((i : ℕ) → b (suc i) ≡ 0) =
    nothing_shorter l w s d k p c (omega arith) (shift a) (shift b) (λ i. ha (suc i)) (λ i. hb (suc i))
    (λ i q. da (suc i) (omega arith)) (λ i q. db (suc i) (omega arith))
    (shift_equation l w a b z.0 z.1 e) in
    (zero_everywhere a z.0 r.0, zero_everywhere b z.1 r.1)

-- The pair (a, b) is a multiple of the pair (l, w): it is (q l, q w) for some q.
abbrev IsSeriesMultiple : (ℕ → ℕ) → (ℕ → ℕ) → (ℕ → ℕ) → (ℕ → ℕ) → Type 0
IsSeriesMultiple l w a b =
    (q : List ℕ) × ((i : ℕ) → a i ≡ convolution (coefficient q) l i) × ((i : ℕ) → b i ≡ convolution (coefficient q) w i)

-- Two series of zeros are 0 times any two series.
no_multiple : (l w a b : ℕ → ℕ) → ((i : ℕ) → a i ≡ 0) → ((i : ℕ) → b i ≡ 0) → IsSeriesMultiple l w a b
no_multiple l w a b za zb = (
  [],
  (λ i. za i ∙ sym (conv_zero (coefficient []) l i (λ j m q. product_zero_left (l m)))),
  (λ i. zb i ∙ sym (conv_zero (coefficient []) w i (λ j m q. product_zero_left (w m)))),
)

-- A multiple with one more coefficient x in front of the factor is x times the series, plus the other multiple one
-- place later.
cons_multiple : (x : ℕ) (q : List ℕ) (l a : ℕ → ℕ) → a 0 ≡ x ⊗ l 0 →
    ((i : ℕ) → a (suc i) ⊕ x ⊗ l (suc i) ≡ convolution (coefficient q) l i) → (i : ℕ) →
    a i ≡ convolution (coefficient (x ∷ q)) l i
unfolding convolution
cons_multiple x q l a z h zero = z
cons_multiple x q l a z h (suc i) =
    sym (xor_zero_r (a (suc i))) ∙ ap (bit_xor (a (suc i))) (sym (xor_self (x ⊗ l (suc i))))
    ∙ sym (xor_assoc (a (suc i)) (x ⊗ l (suc i)) (x ⊗ l (suc i)))
    ∙ ap (λ y. y ⊕ x ⊗ l (suc i)) (h i) ∙ xor_comm (convolution (coefficient q) l i) (x ⊗ l (suc i))

-- The sum of 0 and a multiple of 0 is 0.
pub both_zero : (x a b : ℕ) → a ≡ 0 → b ≡ 0 → a ⊕ x ⊗ b ≡ 0
both_zero x a b p q = ap (λ y. y ⊕ x ⊗ b) p ∙ ap (λ y. x ⊗ y) q ∙ product_zero_right x

-- The equation still holds when x times the least pair is taken away from a solution.
pub less_equation : (l w a b : ℕ → ℕ) (x : ℕ) → ((n : ℕ) → convolution a w n ≡ convolution l b n) → (n : ℕ) →
    convolution (λ i. a i ⊕ x ⊗ l i) w n ≡ convolution l (λ i. b i ⊕ x ⊗ w i) n
less_equation l w a b x e n =
    conv_sum_left a (λ i. x ⊗ l i) w n ∙ ap (λ y. y ⊕ convolution (λ i. x ⊗ l i) w n) (e n)
    ∙ ap (bit_xor (convolution l b n)) (conv_scale_left x l w n ∙ ap (λ y. x ⊗ y) (conv_comm l w n)
    ∙ sym (conv_scale_left x w l n) ∙ conv_comm (λ i. x ⊗ w i) l n)
    ∙ sym (conv_sum_right l b (λ i. x ⊗ w i) n)

-- What solves the equation with the least pair is a multiple of it: its first coefficient is that of the factor, and
-- the rest is shorter.
pub solution_is_multiple : (l w s : ℕ → ℕ) (d k : ℕ) → IsLeastSeries l w s d k → (c : ℕ) (a b : ℕ → ℕ) →
    ((i : ℕ) → a i < 256) → ((i : ℕ) → b i < 256)
    → ((i : ℕ) → c ≤ i → a i ≡ 0) → ((i : ℕ) → c ≤ suc i → b i ≡ 0) →
    ((n : ℕ) → convolution a w n ≡ convolution l b n) → IsSeriesMultiple l w a b
solution_is_multiple l w s d k p zero a b ha hb da db e =
    no_multiple l w a b (λ i. da i (omega arith)) (λ i. db i (omega arith))
solution_is_multiple l w s d k p (suc c) a b ha hb da db e =
    elim (cases_lt c d) [
      | inl h ↦
          let r : ((i : ℕ) → a i ≡ 0) × ((i : ℕ) → b i ≡ 0) =
          nothing_shorter l w s d k p c h a b ha hb (λ i q. da i (omega arith)) (λ i q. db i (omega arith)) e in
          no_multiple l w a b r.0 r.1
      | inr h ↦
          let x = a 0 in
          let f = λ (i : ℕ). a i ⊕ x ⊗ l i in
          let g = λ (i : ℕ). b i ⊕ x ⊗ w i in
          let zf : a 0 ⊕ x ⊗ l 0 ≡ 0 =
          ap (λ y. x ⊕ x ⊗ y) p.0.one ∙ ap (bit_xor x) (product_one_right x (ha 0)) ∙ xor_self x in
          let hw : b 0 ≡ x ⊗ w 0 = head_equation l w a b p.0.one (hb 0) e in
          let zg : b 0 ⊕ x ⊗ w 0 ≡ 0 = ap (λ y. y ⊕ x ⊗ w 0) hw ∙ xor_self (x ⊗ w 0) in
          let r : IsSeriesMultiple l w (shift f) (shift g) =
          solution_is_multiple l w s d k p c (shift f) (shift g)
          (λ i. sum_below (a (suc i)) (x ⊗ l (suc i)) (ha (suc i)) (product_below x (l (suc i))))
          (λ i. sum_below (b (suc i)) (x ⊗ w (suc i)) (hb (suc i)) (product_below x (w (suc i))))
          (λ i q. both_zero x (a (suc i)) (l (suc i)) (da (suc i) (omega arith)) (p.0.degree (suc i) (omega arith)))
          (λ i q. both_zero x (b (suc i)) (w (suc i)) (db (suc i) (omega arith)) (p.0.short (suc i) (omega arith)))
          (shift_equation l w f g zf zg (less_equation l w a b x e)) in (
            x ∷ r.0,
            cons_multiple x r.0 l a (sym (ap (λ y. x ⊗ y) p.0.one ∙ product_one_right x (ha 0))) r.1,
            cons_multiple x r.0 w b hw r.2,
          )
    ]
