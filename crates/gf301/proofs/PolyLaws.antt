-- Laws of polynomials.
use Rattle.std.proofs.Common.{◌≡◌, ℕ, zero, suc, ◌+◌, ◌-◌, ◌<◌, ◌≤◌, List, [], ◌∷◌, ◌++◌, length, map, replicate}
use Rattle.std.proofs.Common.{get_or, zero-add, refl, sym, ap, subst, ◌∙◌, arith, bit_xor, length-append}
use lib.Bits.{xor_assoc, xor_comm, xor_self, xor_zero_r}
use Rattle.std.specs.List.{range_with_len}
use Rattle.std.proofs.lemmas.List.{length-map, length-replicate}
use Rattle.std.proofs.lemmas.Grind.{same_number_lists}
use Rattle.gf301.specs.Field.{◌⊕◌, ◌⊗◌, raise, power}
use Rattle.gf301.specs.Polynomial.{value, coefficient, convolution, values_from, times, Bytes}
use Rattle.gf301.proofs.Lists.{plus, scale, nonzeros}
use Rattle.gf301.proofs.Series.{conv_below, conv_comm, conv_nothing, conv_cons}
use Rattle.gf301.proofs.Additive.{xor_swap}
use Rattle.gf301.proofs.FieldLaws.{product_sum_left, product_sum_right, product_assoc, product_comm, product_zero_left}
use Rattle.gf301.proofs.FieldLaws.{product_zero_right, product_one_left, product_one_right, product_below, sum_zero}
use Rattle.gf301.proofs.FieldLaws.{sum_below, raise_add}
use Rattle.gf301.proofs.Weights.{value_weigh, zeros_from_sums, bytes_head, bytes_tail, bytes_cons, zeros_parts}

-- A sum is as long as its parts.
pub length_plus : (p q : List ℕ) → length p ≡ length q → length (plus p q) ≡ length p
unfolding plus
length_plus [] q h = refl
length_plus (a ∷ p) [] h = absurd (omega arith)
length_plus (a ∷ p) (b ∷ q) h = ap suc (length_plus p q (omega arith))

-- A multiple of a polynomial is as long as the polynomial.
pub length_scale : (a : ℕ) (p : List ℕ) → length (scale a p) ≡ length p
unfolding scale
length_scale a p = length-map p (λ b. a ⊗ b)

-- The value of a sum is the sum of the values.
pub value_plus : (x : ℕ) (p q : List ℕ) → length p ≡ length q → value (plus p q) x ≡ value p x ⊕ value q x
unfolding plus value
value_plus x [] [] h = refl
value_plus x [] (b ∷ q) h = absurd (omega arith)
value_plus x (a ∷ p) [] h = absurd (omega arith)
value_plus x (a ∷ p) (b ∷ q) h =
    let k : length p ≡ length q = omega arith in
    ap (λ n. (a ⊕ b) ⊗ raise x n ⊕ value (plus p q) x) (length_plus p q k)
    ∙ ap (λ y. y ⊕ value (plus p q) x) (product_sum_left a b (raise x (length p)))
    ∙ ap (bit_xor (a ⊗ raise x (length p) ⊕ b ⊗ raise x (length p))) (value_plus x p q k)
    ∙ xor_swap (a ⊗ raise x (length p)) (b ⊗ raise x (length p)) (value p x) (value q x)
    ∙ ap (λ n. (a ⊗ raise x (length p) ⊕ value p x) ⊕ (b ⊗ raise x n ⊕ value q x)) k

-- The value of a multiple is the multiple of the value.
pub value_scale : (x a : ℕ) (p : List ℕ) → value (scale a p) x ≡ a ⊗ value p x
unfolding scale value
value_scale x a [] = sym (product_zero_right a)
value_scale x a (b ∷ p) =
    ap (λ n. (a ⊗ b) ⊗ raise x n ⊕ value (map (λ c. a ⊗ c) p) x) (length_scale a p)
    ∙ ap (bit_xor ((a ⊗ b) ⊗ raise x (length p))) (value_scale x a p)
    ∙ ap (λ y. y ⊕ a ⊗ value p x) (product_assoc a b (raise x (length p)))
    ∙ sym (product_sum_right a (b ⊗ raise x (length p)) (value p x))

-- The value of zeros is 0.
pub value_zeros : (x n : ℕ) → value (replicate n 0) x ≡ 0
unfolding value
value_zeros x zero = refl
value_zeros x (suc n) =
    ap (λ y. y ⊕ value (replicate n 0) x) (product_zero_left (raise x (length (replicate n 0)))) ∙ value_zeros x n

-- With n zeros at the end, the value is multiplied by x to the power n.
pub value_shift : (x n : ℕ) (p : List ℕ) → value (p ++ replicate n 0) x ≡ value p x ⊗ raise x n
unfolding value
value_shift x n [] = value_zeros x n ∙ sym (product_zero_left (raise x n))
value_shift x n (a ∷ p) =
    let k : length (p ++ replicate n 0) ≡ length p + n = simp (length-append, length-replicate) in
    ap (λ m. a ⊗ raise x m ⊕ value (p ++ replicate n 0) x) k
    ∙ ap (λ y. a ⊗ y ⊕ value (p ++ replicate n 0) x) (raise_add x (length p) n)
    ∙ ap (bit_xor (a ⊗ (raise x (length p) ⊗ raise x n))) (value_shift x n p)
    ∙ ap (λ y. y ⊕ value p x ⊗ raise x n) (sym (product_assoc a (raise x (length p)) (raise x n)))
    ∙ sym (product_sum_left (a ⊗ raise x (length p)) (value p x) (raise x n))

-- A coefficient of a sum is the sum of the coefficients.
pub get_or-plus : (p q : List ℕ) (k : ℕ) → length p ≡ length q → get_or (plus p q) k 0 ≡ get_or p k 0 ⊕ get_or q k 0
unfolding plus
get_or-plus [] [] k h = refl
get_or-plus [] (b ∷ q) k h = absurd (omega arith)
get_or-plus (a ∷ p) [] k h = absurd (omega arith)
get_or-plus (a ∷ p) (b ∷ q) zero h = refl
get_or-plus (a ∷ p) (b ∷ q) (suc k) h = get_or-plus p q k (omega arith)

-- Each coefficient of a list of zeros is 0.
get_or-zeros : (n k : ℕ) → ◌≡◌ {A = ℕ} (get_or (replicate n 0) k 0) 0
get_or-zeros zero k = refl
get_or-zeros (suc n) zero = refl
get_or-zeros (suc n) (suc k) = get_or-zeros n k

-- A coefficient of a multiple that is followed by zeros is the multiple of the coefficient.
pub get_or-scale : (a : ℕ) (q : List ℕ) (n k : ℕ) → get_or (scale a q ++ replicate n 0) k 0 ≡ a ⊗ get_or q k 0
unfolding scale
get_or-scale a [] n k = get_or-zeros n k ∙ sym (product_zero_right a)
get_or-scale a (b ∷ q) n zero = refl
get_or-scale a (b ∷ q) n (suc k) = get_or-scale a q n k

-- ---- The list of a function's values
-- The list of n values of a function has the length n.
pub length-values_from : (f : ℕ → ℕ) (first n : ℕ) → length (values_from f first n) ≡ n
unfolding values_from
length-values_from f first zero = refl
length-values_from f first (suc n) = ap suc (length-values_from f (suc first) n)

-- The element i of the list is the value at first + i.
pub get_or-values_from : (f : ℕ → ℕ) (first n i : ℕ) → i < n → get_or (values_from f first n) i 0 ≡ f (first + i)
unfolding values_from
get_or-values_from f first zero i h = absurd (omega arith)
get_or-values_from f first (suc n) zero h = ap f (let e : first ≡ first + 0 = omega arith in e)
get_or-values_from f first (suc n) (suc i) h =
    get_or-values_from f (suc first) n i (omega arith) ∙ ap f (let e : suc first + i ≡ first + suc i = omega arith in e)

-- With one value more, this value stands at the end of the list.
pub values_from_push : (f : ℕ → ℕ) (first n : ℕ) →
    values_from f first (suc n) ≡ values_from f first n ++ f (first + n) ∷ []
unfolding values_from
values_from_push f first zero = ap (λ k. f k ∷ []) (let e : first ≡ first + 0 = omega arith in e)
values_from_push f first (suc n) =
    ap (λ t. f first ∷ t) (values_from_push f (suc first) n)
    ∙ ap (λ k. f first ∷ values_from f (suc first) n ++ f k ∷ []) (let e : suc first + n ≡ first + suc n =
    omega arith in e)

-- Values below 256 make a list of bytes.
pub bytes_values_from : (f : ℕ → ℕ) → ((i : ℕ) → f i < 256) → (first n : ℕ) → Bytes (values_from f first n)
unfolding values_from
bytes_values_from f h first zero = λ k d l. absurd (omega arith)
bytes_values_from f h first (suc n) =
    bytes_cons (f first) (values_from f (suc first) n) (h first) (bytes_values_from f h (suc first) n)

-- They are what the function gives for the numbers from there on.
values_are_mapped : (f : ℕ → ℕ) (first n : ℕ) → values_from f first n ≡ map f (range_with_len first n)
unfolding values_from
values_are_mapped f first zero = refl
values_are_mapped f first (suc n) =
    ap (λ t. f first ∷ t) (values_are_mapped f (suc first) n
    ∙ ap (λ a. map f (range_with_len a n)) (let e : suc first ≡ first + 1 = omega arith in e))

-- ---- The product
-- A product has the values of the product of the series of both factors.
pub times_values : (p q : List ℕ) →
    times p q ≡ values_from (convolution (coefficient p) (coefficient q)) 0 (length p + length q - 1)
unfolding times
times_values p q =
    sym (values_are_mapped (convolution (coefficient p) (coefficient q)) 0 (length p + length q - 1))

-- A product has as many coefficients as its factors together, less one if these have any.
length_times_is : (p q : List ℕ) → length (times p q) ≡ length p + length q - 1
length_times_is p q =
    ap length (times_values p q)
    ∙ length-values_from (convolution (coefficient p) (coefficient q)) 0 (length p + length q - 1)

-- A product has as many coefficients as its factors together, less one.
pub length_times : (p q : List ℕ) → 0 < length q → length (times p q) + 1 ≡ length p + length q
length_times p q h = omega (arith, length_times_is p q)

-- A coefficient of a product is the one of the product of the series of both factors.
pub get_or-times : (p q : List ℕ) (n : ℕ) → n < length p + length q - 1 →
    get_or (times p q) n 0 ≡ convolution (coefficient p) (coefficient q) n
get_or-times p q n h =
    ap (λ xs. get_or xs n 0) (times_values p q)
    ∙ get_or-values_from (convolution (coefficient p) (coefficient q)) 0 (length p + length q - 1) n h
    ∙ ap (convolution (coefficient p) (coefficient q)) (zero-add n)

-- A product has bytes as coefficients, whatever the factors are.
pub bytes_times : (p q : List ℕ) → Bytes (times p q)
bytes_times p q =
    subst Bytes (sym (times_values p q)) (bytes_values_from (convolution (coefficient p) (coefficient q))
    (conv_below (coefficient p) (coefficient q)) 0 (length p + length q - 1))

-- The product of the empty list and another is a list of zeros.
pub times_nothing : (q : List ℕ) → 0 < length q → times [] q ≡ replicate (length q - 1) 0
times_nothing q h =
    same_number_lists (times [] q) (replicate (length q - 1) 0)
    (length_times_is [] q ∙ (let e : 0 + length q - 1 ≡ length q - 1 = omega arith in e)
    ∙ sym (length-replicate (length q - 1) 0))
    (λ n l. get_or-times [] q n (omega (arith, length_times_is [] q)) ∙ conv_nothing (coefficient q) n
    ∙ sym (get_or-zeros (length q - 1) n))

-- The first coefficient of a product is the product of the first coefficients.
head_first : (a : ℕ) (p q : List ℕ) → convolution (coefficient (a ∷ p)) (coefficient q) 0 ≡ a ⊗ get_or q 0 0
unfolding convolution
head_first a p q = refl

-- At each place the product of a list with the head a is the sum of a times the other factor and the product of the
-- rest.
head_places : (a : ℕ) (p q : List ℕ) (n : ℕ) → 0 < length q → n < length p + length q
    → convolution (coefficient (a ∷ p)) (coefficient q) n ≡
    get_or (scale a q ++ replicate (length p) 0) n 0 ⊕ get_or (0 ∷ times p q) n 0
head_places a p q zero h l =
    head_first a p q ∙ sym (get_or-scale a q (length p) 0)
    ∙ sym (xor_zero_r (get_or (scale a q ++ replicate (length p) 0) 0 0))
head_places a p q (suc n) h l =
    conv_cons a p (coefficient q) n
    ∙ ap (λ y. y ⊕ convolution (coefficient p) (coefficient q) n) (sym (get_or-scale a q (length p) (suc n)))
    ∙ ap (bit_xor (get_or (scale a q ++ replicate (length p) 0) (suc n) 0)) (sym (get_or-times p q n (omega arith)))

-- The product of a x^n + p and q is the sum of (a x^n) q and p q.
pub times_head : (a : ℕ) (p q : List ℕ) → 0 < length q →
    times (a ∷ p) q ≡ plus (scale a q ++ replicate (length p) 0) (0 ∷ times p q)
times_head a p q h =
    let m = scale a q ++ replicate (length p) 0 in
    let t = 0 ∷ times p q in
    let long : length m ≡ length q + length p =
    simp (length-append, length-replicate) (ap (λ n. n + length p) (length_scale a q)) in
    let same : length m ≡ length t = omega (arith, length_times p q h) in
    let whole : length (times (a ∷ p) q) ≡ length p + length q = omega (arith, length_times (a ∷ p) q h) in
    same_number_lists (times (a ∷ p) q) (plus m t) (omega (arith, length_plus m t same))
    (λ n l. get_or-times (a ∷ p) q n (omega arith) ∙ head_places a p q n h (omega arith) ∙ sym (get_or-plus m t n same))

-- The value of a product is the product of the values.
pub value_times : (x : ℕ) (p q : List ℕ) → 0 < length q → value (times p q) x ≡ value p x ⊗ value q x
unfolding value
value_times x [] q h =
    ap (λ t. value t x) (times_nothing q h) ∙ value_zeros x (length q - 1) ∙ sym (product_zero_left (value q x))
value_times x (a ∷ p) q h =
    let r : length (times p q) + 1 ≡ length p + length q = length_times p q h in
    let k : length (scale a q ++ replicate (length p) 0) ≡ length q + length p =
    simp (length-append, length-replicate) (ap (λ n. n + length p) (length_scale a q)) in
    ap (λ t. value t x) (times_head a p q h)
    ∙ value_plus x (scale a q ++ replicate (length p) 0) (0 ∷ times p q) (omega arith)
    ∙ ap (λ y. y ⊕ value (0 ∷ times p q) x) (value_shift x (length p) (scale a q)
    ∙ ap (λ y. y ⊗ raise x (length p)) (value_scale x a q))
    ∙ ap (bit_xor ((a ⊗ value q x) ⊗ raise x (length p)))
    (ap (λ y. y ⊕ value (times p q) x) (product_zero_left (raise x (length (times p q)))) ∙ value_times x p q h)
    ∙ ap (λ y. y ⊕ value p x ⊗ value q x) (product_assoc a (value q x) (raise x (length p))
    ∙ ap (λ y. a ⊗ y) (product_comm (value q x) (raise x (length p)))
    ∙ sym (product_assoc a (raise x (length p)) (value q x)))
    ∙ sym (product_sum_left (a ⊗ raise x (length p)) (value p x) (value q x))

-- The sum of two lists of bytes is a list of bytes.
pub bytes_plus : (p q : List ℕ) → Bytes p → Bytes q → Bytes (plus p q)
unfolding plus
bytes_plus [] q hp hq = λ k d l. absurd (omega arith)
bytes_plus (a ∷ p) [] hp hq = λ k d l. absurd (omega arith)
bytes_plus (a ∷ p) (b ∷ q) hp hq =
    bytes_cons (a ⊕ b) (plus p q) (sum_below a b (bytes_head a p hp) (bytes_head b q hq))
    (bytes_plus p q (bytes_tail a p hp) (bytes_tail b q hq))

-- A list of zeros is a list of bytes.
pub bytes_zeros : (n : ℕ) → Bytes (replicate n 0)
bytes_zeros zero = λ k d l. absurd (omega arith)
bytes_zeros (suc n) = bytes_cons 0 (replicate n 0) (omega arith) (bytes_zeros n)

-- A multiple of a list, followed by bytes, is a list of bytes.
bytes_scale_append : (a : ℕ) (p q : List ℕ) → Bytes q → Bytes (scale a p ++ q)
unfolding scale
bytes_scale_append a [] q h = h
bytes_scale_append a (b ∷ p) q h =
    bytes_cons (a ⊗ b) (map (λ c. a ⊗ c) p ++ q) (product_below a b) (bytes_scale_append a p q h)

-- The product is commutative.
pub times_comm : (p q : List ℕ) → times p q ≡ times q p
times_comm p q =
    let n : length p + length q - 1 ≡ length q + length p - 1 = omega arith in
    same_number_lists (times p q) (times q p) (length_times_is p q ∙ n ∙ sym (length_times_is q p))
    (λ i h.
    let l : i < length p + length q - 1 = omega (arith, length_times_is p q) in
    get_or-times p q i l ∙ conv_comm (coefficient p) (coefficient q) i ∙ sym (get_or-times q p i (omega arith)))

-- ---- Two lists of one length are equal where their values agree
-- Lists of one length whose sum is zeros are equal.
same_from_sum : (p q : List ℕ) → length p ≡ length q → nonzeros (plus p q) ≡ 0 → p ≡ q
unfolding plus
same_from_sum [] [] l h = refl
same_from_sum [] (b ∷ q) l h = absurd (omega arith)
same_from_sum (a ∷ p) [] l h = absurd (omega arith)
same_from_sum (a ∷ p) (b ∷ q) l h =
    let s : (a ⊕ b ≡ 0) × (nonzeros (plus p q) ≡ 0) = zeros_parts (a ⊕ b) (plus p q) h in
    ap (λ c. c ∷ p) (sum_zero a b s.0) ∙ ap (λ t. b ∷ t) (same_from_sum p q (omega arith) s.1)

-- At most as many places differ from 0 as the list has.
nonzeros-le-length : (e : List ℕ) → nonzeros e ≤ length e
unfolding nonzeros
nonzeros-le-length [] = omega arith
nonzeros-le-length (zero ∷ e) = omega (arith, nonzeros-le-length e)
nonzeros-le-length (suc a ∷ e) = omega (arith, nonzeros-le-length e)

-- Two lists of one length that differ in at most m places, and whose values at 2^1 to 2^m agree, are equal.
pub same_from_values : (p q : List ℕ) (m : ℕ) → length p ≡ length q → length p ≤ 255 → Bytes p → Bytes q →
    nonzeros (plus p q) ≤ m
    → ((i : ℕ) → i < m → value p (power (1 + i)) ≡ value q (power (1 + i))) → p ≡ q
same_from_values p q m l h hp hq z v =
    same_from_sum p q l
    (zeros_from_sums (length p) (plus p q) m 1 (length_plus p q l) h (bytes_plus p q hp hq) z
    (λ i b. sym (value_weigh (1 + i) (plus p q)) ∙ value_plus (power (1 + i)) p q l
    ∙ ap (λ y. y ⊕ value q (power (1 + i))) (v i b) ∙ xor_self (value q (power (1 + i)))))

-- Lists of one length of at most 255 with the same values are equal.
pub same_values : (p q : List ℕ) → length p ≡ length q → length p ≤ 255 → Bytes p → Bytes q →
    ((x : ℕ) → value p x ≡ value q x) → p ≡ q
same_values p q l h hp hq v =
    same_from_values p q (length p) l h hp hq (omega (arith, nonzeros-le-length (plus p q), length_plus p q l))
    (λ i b. v (power (1 + i)))

-- The product is associative, up to 255 coefficients.
pub times_assoc : (p q g : List ℕ) → 0 < length q → 0 < length g → length p + length q + length g ≤ 257 →
    times (times p q) g ≡ times p (times q g)
times_assoc p q g hq hg h =
    let a : length (times p q) + 1 ≡ length p + length q = length_times p q hq in
    let b : length (times q g) + 1 ≡ length q + length g = length_times q g hg in
    let c : length (times (times p q) g) + 1 ≡ length (times p q) + length g = length_times (times p q) g hg in
    let d : length (times p (times q g)) + 1 ≡ length p + length (times q g) =
    length_times p (times q g) (omega arith) in
    same_values (times (times p q) g) (times p (times q g)) (omega arith) (omega arith) (bytes_times (times p q) g)
    (bytes_times p (times q g))
    (λ x. value_times x (times p q) g hg ∙ ap (λ y. y ⊗ value g x) (value_times x p q hq)
    ∙ product_assoc (value p x) (value q x) (value g x)
    ∙ ap (λ y. value p x ⊗ y) (sym (value_times x q g hg)) ∙ sym (value_times x p (times q g) (omega arith)))

-- A value is a byte.
pub value_below : (p : List ℕ) (x : ℕ) → value p x < 256
unfolding value
value_below [] x = omega arith
value_below (a ∷ p) x =
    sum_below (a ⊗ raise x (length p)) (value p x) (product_below a (raise x (length p))) (value_below p x)

-- ---- The factor x - r
-- The value of x - r at an element is the sum of the element and r.
pub factor_value : (r x : ℕ) → r < 256 → x < 256 → value (1 ∷ r ∷ []) x ≡ x ⊕ r
unfolding value raise
factor_value r x hr hx =
    ap (λ y. y ⊕ (r ⊗ 1 ⊕ 0)) (product_one_left (x ⊗ 1) (product_below x 1) ∙ product_one_right x hx)
    ∙ ap (bit_xor x) (xor_zero_r (r ⊗ 1) ∙ product_one_right r hr)

-- A polynomial is divided by x - r: b is what is carried to its head, and the remainder is left out.
unfoldable pub quotient : ℕ → ℕ → List ℕ → List ℕ
quotient r b [] = []
quotient r b (a ∷ p) = b ∷ quotient r (a ⊕ r ⊗ b) p

-- The quotient, without its remainder, is as long as what follows what is carried.
pub length_quotient : (r b : ℕ) (p : List ℕ) → length (quotient r b p) ≡ length p
unfolding quotient
length_quotient r b [] = refl
length_quotient r b (a ∷ p) = ap suc (length_quotient r (a ⊕ r ⊗ b) p)

-- If the value at r is 0, it is 0 again after a step of the division.
pub carry : (r b a : ℕ) (p : List ℕ) → value (b ∷ a ∷ p) r ≡ 0 → value ((a ⊕ r ⊗ b) ∷ p) r ≡ 0
unfolding value raise
carry r b a p h =
    ap (λ y. y ⊕ value p r) (product_sum_left a (r ⊗ b) (raise r (length p))
    ∙ xor_comm (a ⊗ raise r (length p)) ((r ⊗ b) ⊗ raise r (length p))
    ∙ ap (λ y. y ⊕ a ⊗ raise r (length p)) (ap (λ y. y ⊗ raise r (length p)) (product_comm r b)
    ∙ product_assoc b r (raise r (length p))))
    ∙ xor_assoc (b ⊗ (r ⊗ raise r (length p))) (a ⊗ raise r (length p)) (value p r)
    ∙ h

-- A list of zeros adds nothing.
plus_zeros : (n : ℕ) (p : List ℕ) → length p ≡ n → plus (replicate n 0) p ≡ p
unfolding plus
plus_zeros zero [] h = refl
plus_zeros zero (a ∷ p) h = absurd (omega arith)
plus_zeros (suc n) [] h = absurd (omega arith)
plus_zeros (suc n) (a ∷ p) h = ap (λ t. a ∷ t) (plus_zeros n p (omega arith))

-- After a step of the division the list is still one of bytes.
pub bytes_carry : (r b a : ℕ) (p : List ℕ) → Bytes (b ∷ a ∷ p) → Bytes ((a ⊕ r ⊗ b) ∷ p)
bytes_carry r b a p h =
    let t : Bytes (a ∷ p) = bytes_tail b (a ∷ p) h in
    bytes_cons (a ⊕ r ⊗ b) p (sum_below a (r ⊗ b) (bytes_head a p t) (product_below r b)) (bytes_tail a p t)

-- The quotient of a list of bytes is a list of bytes.
pub bytes_quotient : (r b : ℕ) (p : List ℕ) → Bytes (b ∷ p) → Bytes (quotient r b p)
unfolding quotient
bytes_quotient r b [] h = λ k d l. absurd (omega arith)
bytes_quotient r b (a ∷ p) h =
    bytes_cons b (quotient r (a ⊕ r ⊗ b) p) (bytes_head b (a ∷ p) h)
    (bytes_quotient r (a ⊕ r ⊗ b) p (bytes_carry r b a p h))

-- A polynomial with the root r is its quotient times x - r.
pub root_divides : (r b : ℕ) (p : List ℕ) → Bytes (b ∷ p) → value (b ∷ p) r ≡ 0 →
    times (quotient r b p) (1 ∷ r ∷ []) ≡ b ∷ p
unfolding quotient value raise plus scale
root_divides r b [] hb h =
    let e : b ≡ 0 = sym (product_one_right b (bytes_head b [] hb)) ∙ sym (xor_zero_r (b ⊗ 1)) ∙ h in
    times_nothing (1 ∷ r ∷ []) (omega arith) ∙ ap (λ c. c ∷ []) (sym e)
root_divides r b (a ∷ p) hb h =
    let c = a ⊕ r ⊗ b in
    let q = quotient r c p in
    let i : times q (1 ∷ r ∷ []) ≡ c ∷ p = root_divides r c p (bytes_carry r b a p hb) (carry r b a p h) in
    times_head b q (1 ∷ r ∷ []) (omega arith)
    ∙ ap (λ t. plus (scale b (1 ∷ r ∷ []) ++ replicate (length q) 0) (0 ∷ t)) i
    ∙ ap (λ y. y ∷ (b ⊗ r ⊕ c) ∷ plus (replicate (length q) 0) p) (xor_zero_r (b ⊗ 1)
    ∙ product_one_right b (bytes_head b (a ∷ p) hb))
    ∙ ap (λ y. b ∷ y ∷ plus (replicate (length q) 0) p)
    (xor_comm (b ⊗ r) c ∙ xor_assoc a (r ⊗ b) (b ⊗ r) ∙ ap (λ y. a ⊕ (y ⊕ b ⊗ r)) (product_comm r b)
    ∙ ap (bit_xor a) (xor_self (b ⊗ r)) ∙ xor_zero_r a)
    ∙ ap (λ t. b ∷ a ∷ t) (plus_zeros (length q) p (sym (length_quotient r c p)))

-- ---- A place more, as a loop over a list adds it
-- With one coefficient more at the end, the value is the one before it times x, plus this coefficient.
pub value_push : (p : List ℕ) (c x : ℕ) → c < 256 → value (p ++ c ∷ []) x ≡ value p x ⊗ x ⊕ c
unfolding value raise
value_push [] c x h = xor_zero_r (c ⊗ 1) ∙ product_one_right c h ∙ ap (λ y. y ⊕ c) (sym (product_zero_left x))
value_push (a ∷ p) c x h =
    let k : length (p ++ c ∷ []) ≡ suc (length p) = simp length-append (omega arith) in
    ap (λ n. a ⊗ raise x n ⊕ value (p ++ c ∷ []) x) k
    ∙ ap (bit_xor (a ⊗ (x ⊗ raise x (length p)))) (value_push p c x h)
    ∙ sym (xor_assoc (a ⊗ (x ⊗ raise x (length p))) (value p x ⊗ x) c)
    ∙ ap (λ y. y ⊕ value p x ⊗ x ⊕ c) (ap (λ y. a ⊗ y) (product_comm x (raise x (length p)))
    ∙ sym (product_assoc a (raise x (length p)) x))
    ∙ ap (λ y. y ⊕ c) (sym (product_sum_left (a ⊗ raise x (length p)) (value p x) x))
