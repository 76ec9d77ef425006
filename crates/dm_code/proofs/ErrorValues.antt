-- The values of the errors, from the locator divided by its root and from the evaluator.
use Rattle.std.proofs.Common.{◌≡◌, ℕ, zero, suc, ◌+◌, ◌-◌, ◌<◌, ◌≤◌, List, [], ◌∷◌, length, get_or, refl, sym, ap, ◌∙◌}
use Rattle.std.proofs.Common.{arith, bit_xor, inl, inr, ◌⊎◌}
use lib.Bits.{xor_assoc, xor_comm, xor_zero_r}
use Rattle.gf301.specs.Field.{◌⊕◌, ◌⊗◌, raise, power}
use Rattle.gf301.specs.Polynomial.{Bytes, value, coefficient, convolution}
use Rattle.gf301.proofs.Exported.{nonzeros, xor_swap, product_zero_left, product_zero_right, product_comm}
use Rattle.gf301.proofs.Exported.{product_assoc, product_sum_left, product_sum_right, product_cancels, product_positive}
use Rattle.gf301.proofs.Exported.{product_one_right, product_below, raise_below, raise_positive, weigh, conv_cons}
use Rattle.gf301.proofs.Exported.{quotient, length_quotient, quotient_more, value_below, value_push, sums, laid}
use Rattle.gf301.proofs.Exported.{laid_sums, same_functions, shift}
use Rattle.dm_code.proofs.First.{first, length-first, first_push, first_same}
use Rattle.dm_code.proofs.ErrorPlaces.{locator_at, Vanishes, not_root, quotient_vanishes, quotient_positive}

-- The value of the first n coefficients of a series is taken with the first one at the highest power.
abbrev early : (ℕ → ℕ) → ℕ → ℕ → ℕ
early f n x = value (first f n) x

-- The value of no coefficients is 0.
early_nothing : (f : ℕ → ℕ) (x : ℕ) → early f 0 x ≡ 0
unfolding first value
early_nothing f x = refl

-- The first coefficient may be taken apart from the value.
early_head : (f : ℕ → ℕ) (n x : ℕ) → early f (suc n) x ≡ f 0 ⊗ raise x n ⊕ early (shift f) n x
unfolding first value
early_head f n x = ap (λ m. f 0 ⊗ raise x m ⊕ early (shift f) n x) (length-first (shift f) n)

-- The last coefficient may be taken apart from the value.
early_push : (f : ℕ → ℕ) (n x : ℕ) → f n < 256 → early f (suc n) x ≡ early f n x ⊗ x ⊕ f n
early_push f n x h = ap (λ t. value t x) (first_push f n) ∙ value_push (first f n) (f n) x h

-- The value of a sum is the sum of the values.
early_sum : (f g : ℕ → ℕ) (n x : ℕ) → early (λ i. f i ⊕ g i) n x ≡ early f n x ⊕ early g n x
early_sum f g zero x =
    early_nothing (λ i. f i ⊕ g i) x ∙ sym (ap (λ y. y ⊕ early g 0 x) (early_nothing f x) ∙ early_nothing g x)
early_sum f g (suc n) x =
    early_head (λ i. f i ⊕ g i) n x ∙ ap (λ y. y ⊕ early (λ i. f (suc i) ⊕ g (suc i)) n x)
    (product_sum_left (f 0) (g 0) (raise x n))
    ∙ ap (bit_xor (f 0 ⊗ raise x n ⊕ g 0 ⊗ raise x n)) (early_sum (shift f) (shift g) n x)
    ∙ xor_swap (f 0 ⊗ raise x n) (g 0 ⊗ raise x n) (early (shift f) n x) (early (shift g) n x)
    ∙ ap (λ y. y ⊕ (g 0 ⊗ raise x n ⊕ early (shift g) n x)) (sym (early_head f n x))
    ∙ ap (bit_xor (early f (suc n) x)) (sym (early_head g n x))

-- The value of a multiple is the multiple of the value.
early_scale : (c : ℕ) (f : ℕ → ℕ) (n x : ℕ) → early (λ i. c ⊗ f i) n x ≡ c ⊗ early f n x
early_scale c f zero x =
    early_nothing (λ i. c ⊗ f i) x ∙ sym (ap (λ y. c ⊗ y) (early_nothing f x) ∙ product_zero_right c)
early_scale c f (suc n) x =
    early_head (λ i. c ⊗ f i) n x ∙ ap (λ y. y ⊕ early (λ i. c ⊗ f (suc i)) n x) (product_assoc c (f 0) (raise x n))
    ∙ ap (bit_xor (c ⊗ (f 0 ⊗ raise x n))) (early_scale c (shift f) n x)
    ∙ sym (product_sum_right c (f 0 ⊗ raise x n) (early (shift f) n x)) ∙ ap (λ y. c ⊗ y) (sym (early_head f n x))

-- Series with the same coefficients have the same value.
early_same : (f g : ℕ → ℕ) (n x : ℕ) → ((i : ℕ) → f i ≡ g i) → early f n x ≡ early g n x
early_same f g n x h = ap (λ (k : ℕ → ℕ). early k n x) (same_functions h)

-- The coefficient at 0 of a product with a list is the product with its head.
conv_zero_at : (b : ℕ) (q : List ℕ) (s : ℕ → ℕ) → convolution (coefficient (b ∷ q)) s 0 ≡ b ⊗ s 0
unfolding convolution
conv_zero_at b q s = refl

-- A product with a list whose head is a sum is the product with one part at the head, plus the multiple by the other.
conv_head_sum : (a c : ℕ) (p : List ℕ) (s : ℕ → ℕ) (i : ℕ) →
    convolution (coefficient ((a ⊕ c) ∷ p)) s i ≡ convolution (coefficient (a ∷ p)) s i ⊕ c ⊗ s i
unfolding convolution
conv_head_sum a c p s zero = product_sum_left a c (s 0)
conv_head_sum a c p s (suc i) =
    ap (λ y. y ⊕ convolution (coefficient p) s i) (product_sum_left a c (s (suc i))
    ∙ xor_comm (a ⊗ s (suc i)) (c ⊗ s (suc i)))
    ∙ xor_assoc (c ⊗ s (suc i)) (a ⊗ s (suc i)) (convolution (coefficient p) s i)
    ∙ xor_comm (c ⊗ s (suc i)) (a ⊗ s (suc i) ⊕ convolution (coefficient p) s i)

-- One more coefficient in front, laid on the values, adds its product with the value that belongs to it.
laid_cons : (b : ℕ) (t : List ℕ) (s : ℕ → ℕ) → laid (b ∷ t) s 0 ≡ b ⊗ s (length t) ⊕ laid t s 0
unfolding laid
laid_cons b t s = ap (λ n. b ⊗ s n ⊕ laid t s 0) (let r : length t + 0 ≡ length t = omega arith in r)

-- The empty list, laid on the values, gives 0.
laid_nothing : (s : ℕ → ℕ) → laid [] s 0 ≡ 0
unfolding laid
laid_nothing s = refl

-- The quotient of the empty list is empty.
quotient_empty : (x b : ℕ) → quotient x b [] ≡ []
unfolding quotient
quotient_empty x b = refl

-- The quotient by x - r laid on the values is the value of the evaluator.
pub quotient_evaluator : (x b : ℕ) (p : List ℕ) (s : ℕ → ℕ) →
    laid (quotient x b p) s 0 ≡ value (first (convolution (coefficient (b ∷ p)) s) (length p)) x
quotient_evaluator x b [] s =
    ap (λ t. laid t s 0) (quotient_empty x b) ∙ laid_nothing s
    ∙ sym (early_nothing (convolution (coefficient (b ∷ [])) s) x)
quotient_evaluator x b (a ∷ p) s =
    let m = length p in
    let f = λ (i : ℕ). b ⊗ s i in
    let g = convolution (coefficient (a ∷ p)) s in
    ap (λ t. laid t s 0) (quotient_more x b a p) ∙ laid_cons b (quotient x (a ⊕ x ⊗ b) p) s
    ∙ ap (λ n. b ⊗ s n ⊕ laid (quotient x (a ⊕ x ⊗ b) p) s 0) (length_quotient x (a ⊕ x ⊗ b) p)
    ∙ ap (bit_xor (f m))
    (quotient_evaluator x (a ⊕ x ⊗ b) p s
    ∙ early_same (convolution (coefficient ((a ⊕ x ⊗ b) ∷ p)) s) (λ i. g i ⊕ x ⊗ f i) m x
    (λ i. conv_head_sum a (x ⊗ b) p s i ∙ ap (bit_xor (g i)) (product_assoc x b (s i)))
    ∙ early_sum g (λ i. x ⊗ f i) m x ∙ ap (bit_xor (early g m x)) (early_scale x f m x))
    ∙ xor_comm (f m) (early g m x ⊕ x ⊗ early f m x) ∙ xor_assoc (early g m x) (x ⊗ early f m x) (f m)
    ∙ ap (bit_xor (early g m x)) (ap (λ y. y ⊕ f m) (product_comm x (early f m x))
    ∙ sym (early_push f m x (product_below b (s m))) ∙ early_head f m x)
    ∙ xor_comm (early g m x) (f 0 ⊗ raise x m ⊕ early (shift f) m x)
    ∙ xor_assoc (f 0 ⊗ raise x m) (early (shift f) m x) (early g m x)
    ∙ ap (bit_xor (f 0 ⊗ raise x m)) (sym (early_sum (shift f) g m x)
    ∙ early_same (λ i. f (suc i) ⊕ g i) (shift (convolution (coefficient (b ∷ a ∷ p)) s)) m x
    (λ i. sym (conv_cons b (a ∷ p) s i)))
    ∙ ap (λ y. y ⊗ raise x m ⊕ early (shift (convolution (coefficient (b ∷ a ∷ p)) s)) m x)
    (sym (conv_zero_at b (a ∷ p) s))
    ∙ sym (early_head (convolution (coefficient (b ∷ a ∷ p)) s) m x)

-- ---- a sum of which one place is left
-- A sum is 0 if each place adds 0.
weigh_none : (f : ℕ → ℕ) (e : List ℕ) → ((k : ℕ) → k < length e → get_or e k 0 ⊗ f (locator_at (length e) k) ≡ 0) →
    weigh f e ≡ 0
unfolding weigh
weigh_none f [] z = refl
weigh_none f (a ∷ e) z =
    ap (λ y. y ⊕ weigh f e) (ap (λ n. a ⊗ f (power n)) (let r : length e ≡ length (a ∷ e) - 1 = omega arith in r)
    ∙ z 0 (omega arith))
    ∙ weigh_none f e (λ k l. ap (λ n. get_or e k 0 ⊗ f (power n))
    (let r : length e - suc k ≡ length (a ∷ e) - suc (suc k) = omega arith in r) ∙ z (suc k) (omega arith))

-- A sum in which all places but one add 0 is what this place adds.
pub weigh_single : (f : ℕ → ℕ) (e : List ℕ) (i : ℕ) → i < length e →
    ((k : ℕ) → k < length e → (k ≡ i → ⊥) → get_or e k 0 ⊗ f (locator_at (length e) k) ≡ 0) →
    weigh f e ≡ get_or e i 0 ⊗ f (locator_at (length e) i)
unfolding weigh
weigh_single f [] i h z = absurd (omega arith)
weigh_single f (a ∷ e) zero h z =
    ap (bit_xor (a ⊗ f (power (length e)))) (weigh_none f e
    (λ k l. ap (λ n. get_or e k 0 ⊗ f (power n)) (let r : length e - suc k ≡ length (a ∷ e) - suc (suc k) =
    omega arith in r) ∙ z (suc k) (omega arith) (λ q. absurd (omega arith))))
    ∙ xor_zero_r (a ⊗ f (power (length e))) ∙ ap (λ n. a ⊗ f (power n)) (let r : length e ≡ length (a ∷ e) - 1 =
    omega arith in r)
weigh_single f (a ∷ e) (suc i) h z =
    ap (λ y. y ⊕ weigh f e) (ap (λ n. a ⊗ f (power n)) (let r : length e ≡ length (a ∷ e) - 1 = omega arith in r)
    ∙ z 0 (omega arith) (λ q. absurd (omega arith)))
    ∙ weigh_single f e i (omega arith) (λ k l n. ap (λ n. get_or e k 0 ⊗ f (power n))
    (let r : length e - suc k ≡ length (a ∷ e) - suc (suc k) = omega arith in r)
    ∙ z (suc k) (omega arith) (λ q. n (omega arith)))
    ∙ ap (λ n. get_or e i 0 ⊗ f (power n)) (let r : length e - suc i ≡ length (a ∷ e) - suc (suc i) = omega arith in r)

-- ---- the value of an error
-- The value y of the error at the locator x is 0 where x is no root of the error locator l, and otherwise the value of
-- the evaluator w, divided by x times that of l without the root.
pub record IsErrorValue (l w : List ℕ) (x y : ℕ) : Type 0 where
  pub byte : y < 256
  pub apart : 0 < value l x → y ≡ 0
  pub root : value l x ≡ 0 → 0 < x ⊗ value (quotient x 0 l) x →
      (x ⊗ value (quotient x 0 l) x) ⊗ y ≡ value (first (coefficient w) (length l - 1)) x

-- A list gives the same when it is laid on series that agree as far as it reaches.
pub laid_same : (p : List ℕ) (s t : ℕ → ℕ) (u : ℕ) → ((i : ℕ) → i < length p + u → s i ≡ t i) → laid p s u ≡ laid p t u
unfolding laid
laid_same [] s t u h = refl
laid_same (a ∷ p) s t u h =
    ap (λ y. a ⊗ y ⊕ laid p s u) (h (length p + u) (omega arith))
    ∙ ap (bit_xor (a ⊗ t (length p + u))) (laid_same p s t u (λ i l. h i (omega arith)))

-- The power 1 of an element is the element.
pub raise_one : (x : ℕ) → x < 256 → raise x 1 ≡ x
unfolding raise
raise_one x h = product_one_right x h

-- A number is 0 or above 0.
pub zero_or_positive : (a : ℕ) → (a ≡ 0) ⊎ (0 < a)
zero_or_positive zero = inl refl
zero_or_positive (suc a) = inr (omega arith)

-- The quotient by the root, laid on the syndromes, leaves the error at this root alone.
numerator : (e p s : List ℕ) (i : ℕ) → length e ≤ 255 → Bytes p → length p ≤ length s →
    ((k : ℕ) → k < length s → coefficient s k ≡ sums e k) → Vanishes p e → i < length e → 0 < get_or e i 0
    → laid (quotient (locator_at (length e) i) 0 p) (coefficient s) 0 ≡
    (locator_at (length e) i ⊗ value (quotient (locator_at (length e) i) 0 p) (locator_at (length e) i)) ⊗ get_or e
    i 0
numerator e p s i h b m g v q z =
    let x = locator_at (length e) i in
    let t = quotient x 0 p in
    let f = λ (y : ℕ). raise y 1 ⊗ value t y in
    laid_same t (coefficient s) (sums e) 0 (λ k l. g k (omega (arith, length_quotient x 0 p)))
    ∙ laid_sums e t 0
    ∙ weigh_single f e i q (λ k l n. elim (zero_or_positive (get_or e k 0)) [
      | inl w ↦ ap (λ y. y ⊗ f (locator_at (length e) k)) w ∙ product_zero_left (f (locator_at (length e) k))
      | inr w ↦ ap (λ y. get_or e k 0 ⊗ (raise (locator_at (length e) k) 1 ⊗ y))
          (quotient_vanishes e p i h b v q z k l w n)
          ∙ ap (λ y. get_or e k 0 ⊗ y) (product_zero_right (raise (locator_at (length e) k) 1))
          ∙ product_zero_right (get_or e k 0)
    ])
    ∙ product_comm (get_or e i 0) (f x) ∙ ap (λ y. (y ⊗ value t x) ⊗ get_or e i 0)
    (raise_one x (raise_below 2 (length e - suc i)))

-- The 0 with which a quotient begins adds nothing.
laid_zero : (x b : ℕ) (p : List ℕ) (s : ℕ → ℕ) → laid (quotient x b p) s 0 ≡ laid (quotient x 0 (b ∷ p)) s 0
unfolding quotient laid
laid_zero x b p s =
    ap (λ c. laid (quotient x c p) s 0) (sym (ap (bit_xor b) (product_zero_right x) ∙ xor_zero_r b))
    ∙ sym (ap (λ y. y ⊕ laid (quotient x (b ⊕ x ⊗ 0) p) s 0)
    (product_zero_left (s (length (quotient x (b ⊕ x ⊗ 0) p) + 0))))

-- The value of the evaluator is the quotient laid on the syndromes.
evaluated : (p s w : List ℕ) (x : ℕ) → length p ≤ length s →
    ((k : ℕ) → k < length s → convolution (coefficient (1 ∷ p)) (coefficient s) k ≡ coefficient w k)
    → value (first (coefficient w) (length (1 ∷ p) - 1)) x ≡ laid (quotient x 0 (1 ∷ p)) (coefficient s) 0
evaluated p s w x h e =
    ap (λ n. value (first (coefficient w) n) x) (let r : length (1 ∷ p) - 1 ≡ length p = omega arith in r)
    ∙ ap (λ t. value t x) (first_same (coefficient w) (convolution (coefficient (1 ∷ p)) (coefficient s)) (length p)
    (λ i l. sym (e i (omega arith))))
    ∙ sym (quotient_evaluator x 1 p (coefficient s)) ∙ laid_zero x 1 p (coefficient s)

-- The value that the pair gives at a place is the error there.
pub error_found : (e p s w : List ℕ) (i y : ℕ) → length e ≤ 255 → Bytes e → Bytes (1 ∷ p) → length p ≤ nonzeros e →
    suc (length p) ≤ length s → ((k : ℕ) → k < length s → coefficient s k ≡ sums e k)
    → ((k : ℕ) → k < length s → convolution (coefficient (1 ∷ p)) (coefficient s) k ≡ coefficient w k)
    → Vanishes (1 ∷ p) e → i < length e → y < 256 → IsErrorValue (1 ∷ p) w (locator_at (length e) i) y →
    y ≡ get_or e i 0
error_found e p s w i y h eb b l m g k v q yb r =
    let x = locator_at (length e) i in
    let t = quotient x 0 (1 ∷ p) in
    elim (zero_or_positive (get_or e i 0)) [
      | inl z ↦ r.apart (not_root e p i h b l v q z) ∙ sym z
      | inr z ↦
          let d : 0 < value t x = quotient_positive e p i h b l v q z in
          let n : 0 < x ⊗ value t x =
          product_positive x (value t x) (raise_positive 2 (length e - suc i) (omega arith) (omega arith))
          (raise_below 2 (length e - suc i)) d (value_below t x) in
          product_cancels (x ⊗ value t x) y (get_or e i 0) n (product_below x (value t x)) yb (eb i 0 q)
          (r.root (v i q z) n ∙ evaluated p s w x (omega arith) k ∙ numerator e (1 ∷ p) s i h b (omega arith) g v q z)
    ]
