-- The laws of the field.
use Rattle.std.proofs.Common.{◌≡◌, ℕ, zero, suc, ◌+◌, ◌-◌, ◌*◌, ◌/◌, ◌%◌, ◌^◌, ◌<◌, refl, sym, ap, subst, ◌∙◌, arith}
use Rattle.std.proofs.Common.{bit_xor, Bool, true, ◌&&◌, eqb, not, inl, inr}
use Rattle.std.proofs.lemmas.Bool.{and_parts, eqb-true, eqb-false, not-true, cases_order}
use Rattle.std.proofs.lemmas.Nat.{mod_below, xor_mod, xor_lt, pow_pos, xor_block}
use lib.Bits.{xor_assoc, xor_self, xor_zero_r}
use Rattle.std.proofs.Math.Nat.{zero-mul, one-mul, mul_comm, add-zero, zero-add, suc-add, mul-zero, pos_of_ne-zero}
use Rattle.gf301.specs.Field.{◌⊕◌, ◌⊗◌, bit, carryless, modulo_301, raise, power}
use Rattle.gf301.proofs.Additive.{additive_agree, additive_zero, all_below, all_below_at, bit_times, xor_swap}

-- The remainder modulo 301 of a sum is the sum of the remainders.
modulo_sum : (n p q : ℕ) → modulo_301 n (p ⊕ q) ≡ modulo_301 n p ⊕ modulo_301 n q
unfolding modulo_301
modulo_sum zero p q = refl
modulo_sum (suc i) p q =
    ap (λ x. modulo_301 i (p ⊕ q ⊕ x)) (bit_times p q (8 + i) (301 * 2 ^ i))
    ∙ ap (modulo_301 i) (xor_swap p q (bit p (8 + i) * (301 * 2 ^ i)) (bit q (8 + i) * (301 * 2 ^ i)))
    ∙ modulo_sum i (p ⊕ bit p (8 + i) * (301 * 2 ^ i)) (q ⊕ bit q (8 + i) * (301 * 2 ^ i))

-- The product without carries takes a sum on the left to a sum.
carryless_sum_left : (n a b c : ℕ) → carryless n (a ⊕ b) c ≡ carryless n a c ⊕ carryless n b c
unfolding carryless
carryless_sum_left zero a b c = refl
carryless_sum_left (suc i) a b c =
    ap (λ x. x ⊕ carryless i (a ⊕ b) c) (bit_times a b i (c * 2 ^ i))
    ∙ ap (bit_xor (bit a i * (c * 2 ^ i) ⊕ bit b i * (c * 2 ^ i))) (carryless_sum_left i a b c)
    ∙ xor_swap (bit a i * (c * 2 ^ i)) (bit b i * (c * 2 ^ i)) (carryless i a c) (carryless i b c)

-- A digit times a shifted sum is the sum of the digit times each shifted part.
shifted_sum : (d : ℕ) → d < 2 → (a b i : ℕ) → d * ((a ⊕ b) * 2 ^ i) ≡ d * (a * 2 ^ i) ⊕ d * (b * 2 ^ i)
shifted_sum zero h a b i = simp (zero-mul)
shifted_sum (suc zero) h a b i =
    let e : bit_xor a b * 2 ^ i ≡ bit_xor (a * 2 ^ i) (b * 2 ^ i) =
    sym (simp (add-zero, xor_zero_r) at (xor_block i a b 0 0 (pow_pos i) (pow_pos i))) in
    simp one-mul e
shifted_sum (suc (suc d)) h a b i = absurd (omega arith)

-- The product without carries takes a sum on the right to a sum.
carryless_sum_right : (n a b c : ℕ) → carryless n a (b ⊕ c) ≡ carryless n a b ⊕ carryless n a c
unfolding carryless
carryless_sum_right zero a b c = refl
carryless_sum_right (suc i) a b c =
    ap (λ x. x ⊕ carryless i a (b ⊕ c)) (shifted_sum (bit a i) (mod_below (a / 2 ^ i) 2 (omega arith)) b c i)
    ∙ ap (bit_xor (bit a i * (b * 2 ^ i) ⊕ bit a i * (c * 2 ^ i))) (carryless_sum_right i a b c)
    ∙ xor_swap (bit a i * (b * 2 ^ i)) (bit a i * (c * 2 ^ i)) (carryless i a b) (carryless i a c)

-- The product distributes over a sum on the left.
pub product_sum_left : (a b c : ℕ) → (a ⊕ b) ⊗ c ≡ a ⊗ c ⊕ b ⊗ c
unfolding ◌⊗◌
product_sum_left a b c =
    ap (λ x. modulo_301 7 (carryless 8 x (c % 256))) (xor_mod a b 8)
    ∙ ap (modulo_301 7) (carryless_sum_left 8 (a % 256) (b % 256) (c % 256))
    ∙ modulo_sum 7 (carryless 8 (a % 256) (c % 256)) (carryless 8 (b % 256) (c % 256))

-- The product distributes over a sum on the right.
pub product_sum_right : (a b c : ℕ) → a ⊗ (b ⊕ c) ≡ a ⊗ b ⊕ a ⊗ c
unfolding ◌⊗◌
product_sum_right a b c =
    ap (λ x. modulo_301 7 (carryless 8 (a % 256) x)) (xor_mod b c 8)
    ∙ ap (modulo_301 7) (carryless_sum_right 8 (a % 256) (b % 256) (c % 256))
    ∙ modulo_sum 7 (carryless 8 (a % 256) (b % 256)) (carryless 8 (a % 256) (c % 256))

-- The low byte of a low byte is the byte itself.
low_byte : (a : ℕ) → a % 256 % 256 ≡ a % 256
low_byte a = omega arith

-- Of the left factor only the low byte counts.
pub product_low_left : (a b : ℕ) → (a % 256) ⊗ b ≡ a ⊗ b
unfolding ◌⊗◌
product_low_left a b = ap (λ x. modulo_301 7 (carryless 8 x (b % 256))) (low_byte a)

-- Of the right factor only the low byte counts.
pub product_low_right : (a b : ℕ) → a ⊗ (b % 256) ≡ a ⊗ b
unfolding ◌⊗◌
product_low_right a b = ap (λ x. modulo_301 7 (carryless 8 (a % 256) x)) (low_byte b)

-- A low byte is below 2 ^ 8.
byte_below : (a : ℕ) → a % 256 < 2 ^ 8
byte_below a = mod_below a 256 (omega arith)

-- ---- Tests that the checker computes over the powers of 2: 64 to 512 cases each
-- Two powers of 2 below 2 ^ 8 may be exchanged in a product: 64 cases.
comm_test : all_below 8 (λ i. all_below 8 (λ j. eqb (2 ^ i ⊗ 2 ^ j) (2 ^ j ⊗ 2 ^ i))) ≡ true
unfolding all_below ◌⊗◌ carryless modulo_301
comm_test = refl

-- Three powers of 2 may be multiplied in either grouping: 512 cases.
assoc_test : all_below 8 (λ i. all_below 8 (λ j.
    all_below 8 (λ k. eqb ((2 ^ i ⊗ 2 ^ j) ⊗ 2 ^ k) (2 ^ i ⊗ (2 ^ j ⊗ 2 ^ k))))) ≡ true
unfolding all_below ◌⊗◌ carryless modulo_301
assoc_test = refl

-- Two powers of 2 below 2 ^ 8 commute.
comm_at : (i j : ℕ) → i < 8 → j < 8 → 2 ^ i ⊗ 2 ^ j ≡ 2 ^ j ⊗ 2 ^ i
comm_at i j hi hj =
    eqb-true (2 ^ i ⊗ 2 ^ j) (2 ^ j ⊗ 2 ^ i)
    (all_below_at 8 (λ j. eqb (2 ^ i ⊗ 2 ^ j) (2 ^ j ⊗ 2 ^ i))
    (all_below_at 8 (λ i. all_below 8 (λ j. eqb (2 ^ i ⊗ 2 ^ j) (2 ^ j ⊗ 2 ^ i))) comm_test i hi) j hj)

-- A power of 2 and a byte commute.
comm_left : (i b : ℕ) → i < 8 → b < 2 ^ 8 → 2 ^ i ⊗ b ≡ b ⊗ 2 ^ i
comm_left i b hi hb =
    additive_agree (λ x. 2 ^ i ⊗ x) (λ x. x ⊗ 2 ^ i) (product_sum_right (2 ^ i)) (λ x y. product_sum_left x y (2 ^ i)) 8
    (λ j hj. comm_at i j hi hj) b hb

-- Two bytes commute.
comm_bytes : (a b : ℕ) → a < 2 ^ 8 → b < 2 ^ 8 → a ⊗ b ≡ b ⊗ a
comm_bytes a b ha hb =
    additive_agree (λ x. x ⊗ b) (λ x. b ⊗ x) (λ x y. product_sum_left x y b) (product_sum_right b) 8
    (λ i hi. comm_left i b hi hb) a ha

-- The product is commutative.
pub product_comm : (a b : ℕ) → a ⊗ b ≡ b ⊗ a
product_comm a b =
    sym (product_low_left a b) ∙ sym (product_low_right (a % 256) b)
    ∙ comm_bytes (a % 256) (b % 256) (byte_below a) (byte_below b)
    ∙ product_low_left b (a % 256) ∙ product_low_right b a

-- Three powers of 2 below 2 ^ 8 associate.
assoc_at : (i j k : ℕ) → i < 8 → j < 8 → k < 8 → (2 ^ i ⊗ 2 ^ j) ⊗ 2 ^ k ≡ 2 ^ i ⊗ (2 ^ j ⊗ 2 ^ k)
assoc_at i j k hi hj hk =
    eqb-true ((2 ^ i ⊗ 2 ^ j) ⊗ 2 ^ k) (2 ^ i ⊗ (2 ^ j ⊗ 2 ^ k))
    (all_below_at 8 (λ k. eqb ((2 ^ i ⊗ 2 ^ j) ⊗ 2 ^ k) (2 ^ i ⊗ (2 ^ j ⊗ 2 ^ k)))
    (all_below_at 8 (λ j. all_below 8 (λ k. eqb ((2 ^ i ⊗ 2 ^ j) ⊗ 2 ^ k) (2 ^ i ⊗ (2 ^ j ⊗ 2 ^ k))))
    (all_below_at 8 (λ i. all_below 8 (λ j. all_below 8 (λ k. eqb ((2 ^ i ⊗ 2 ^ j) ⊗ 2 ^ k) (2 ^ i ⊗ (2 ^ j ⊗ 2 ^ k)))))
    assoc_test i hi) j hj) k hk)

-- Two powers of 2 and a byte associate.
assoc_third : (i j c : ℕ) → i < 8 → j < 8 → c < 2 ^ 8 → (2 ^ i ⊗ 2 ^ j) ⊗ c ≡ 2 ^ i ⊗ (2 ^ j ⊗ c)
assoc_third i j c hi hj hc =
    additive_agree (λ x. (2 ^ i ⊗ 2 ^ j) ⊗ x) (λ x. 2 ^ i ⊗ (2 ^ j ⊗ x))
    (product_sum_right (2 ^ i ⊗ 2 ^ j))
    (λ x y. ap (λ z. 2 ^ i ⊗ z) (product_sum_right (2 ^ j) x y) ∙ product_sum_right (2 ^ i) (2 ^ j ⊗ x) (2 ^ j ⊗ y))
    8 (λ k hk. assoc_at i j k hi hj hk) c hc

-- A power of 2 and two bytes associate.
assoc_second : (i b c : ℕ) → i < 8 → b < 2 ^ 8 → c < 2 ^ 8 → (2 ^ i ⊗ b) ⊗ c ≡ 2 ^ i ⊗ (b ⊗ c)
assoc_second i b c hi hb hc =
    additive_agree (λ x. (2 ^ i ⊗ x) ⊗ c) (λ x. 2 ^ i ⊗ (x ⊗ c))
    (λ x y. ap (λ z. z ⊗ c) (product_sum_right (2 ^ i) x y) ∙ product_sum_left (2 ^ i ⊗ x) (2 ^ i ⊗ y) c)
    (λ x y. ap (λ z. 2 ^ i ⊗ z) (product_sum_left x y c) ∙ product_sum_right (2 ^ i) (x ⊗ c) (y ⊗ c))
    8 (λ j hj. assoc_third i j c hi hj hc) b hb

-- Three bytes associate.
assoc_bytes : (a b c : ℕ) → a < 2 ^ 8 → b < 2 ^ 8 → c < 2 ^ 8 → (a ⊗ b) ⊗ c ≡ a ⊗ (b ⊗ c)
assoc_bytes a b c ha hb hc =
    additive_agree (λ x. (x ⊗ b) ⊗ c) (λ x. x ⊗ (b ⊗ c))
    (λ x y. ap (λ z. z ⊗ c) (product_sum_left x y b) ∙ product_sum_left (x ⊗ b) (y ⊗ b) c)
    (λ x y. product_sum_left x y (b ⊗ c))
    8 (λ i hi. assoc_second i b c hi hb hc) a ha

-- The product is associative.
pub product_assoc : (a b c : ℕ) → (a ⊗ b) ⊗ c ≡ a ⊗ (b ⊗ c)
product_assoc a b c =
    sym (product_low_right (a ⊗ b) c) ∙ ap (λ x. x ⊗ (c % 256)) (sym (product_low_left a b)
    ∙ sym (product_low_right (a % 256) b))
    ∙ assoc_bytes (a % 256) (b % 256) (c % 256) (byte_below a) (byte_below b) (byte_below c)
    ∙ product_low_left a ((b % 256) ⊗ (c % 256))
    ∙ ap (λ x. a ⊗ x) (product_low_left b (c % 256) ∙ product_low_right b c)

-- The product of 0 and an element is 0.
pub product_zero_left : (a : ℕ) → 0 ⊗ a ≡ 0
product_zero_left a = additive_zero (λ x. x ⊗ a) (λ x y. product_sum_left x y a)

-- An element times 0 is 0.
pub product_zero_right : (a : ℕ) → a ⊗ 0 ≡ 0
product_zero_right a = additive_zero (λ x. a ⊗ x) (product_sum_right a)

-- The product of 1 and a power of 2 below 2 ^ 8 is this power.
one_test : all_below 8 (λ i. eqb (1 ⊗ 2 ^ i) (2 ^ i)) ≡ true
unfolding all_below ◌⊗◌ carryless modulo_301
one_test = refl

-- The product of 1 and a byte is the byte.
pub product_one_left : (a : ℕ) → a < 256 → 1 ⊗ a ≡ a
product_one_left a h =
    additive_agree (λ x. 1 ⊗ x) (λ x. x) (product_sum_right 1) (λ x y. refl) 8
    (λ i hi. eqb-true (1 ⊗ 2 ^ i) (2 ^ i) (all_below_at 8 (λ i. eqb (1 ⊗ 2 ^ i) (2 ^ i)) one_test i hi)) a h

-- A byte times 1 is the byte.
pub product_one_right : (a : ℕ) → a < 256 → a ⊗ 1 ≡ a
product_one_right a h = product_comm a 1 ∙ product_one_left a h

-- A factor 1 inside a product may be left out, even where the other factor is no byte.
pub product_one_middle : (a b : ℕ) → a ⊗ (1 ⊗ b) ≡ a ⊗ b
product_one_middle a b =
    ap (λ x. a ⊗ x) (sym (product_low_right 1 b) ∙ product_one_left (b % 256) (byte_below b)) ∙ product_low_right a b

-- Products of powers of 2 below 2 ^ 8 are bytes.
byte_test : all_below 8 (λ i. all_below 8 (λ j. eqb ((2 ^ i ⊗ 2 ^ j) % 256) (2 ^ i ⊗ 2 ^ j))) ≡ true
unfolding all_below ◌⊗◌ carryless modulo_301
byte_test = refl

-- The product of two powers of 2 below 2 ^ 8 is its own low byte.
byte_at : (i j : ℕ) → i < 8 → j < 8 → (2 ^ i ⊗ 2 ^ j) % 256 ≡ 2 ^ i ⊗ 2 ^ j
byte_at i j hi hj =
    eqb-true ((2 ^ i ⊗ 2 ^ j) % 256) (2 ^ i ⊗ 2 ^ j)
    (all_below_at 8 (λ j. eqb ((2 ^ i ⊗ 2 ^ j) % 256) (2 ^ i ⊗ 2 ^ j))
    (all_below_at 8 (λ i. all_below 8 (λ j. eqb ((2 ^ i ⊗ 2 ^ j) % 256) (2 ^ i ⊗ 2 ^ j))) byte_test i hi) j hj)

-- The product of a power of 2 below 2 ^ 8 and a byte is its own low byte.
byte_second : (i b : ℕ) → i < 8 → b < 2 ^ 8 → (2 ^ i ⊗ b) % 256 ≡ 2 ^ i ⊗ b
byte_second i b hi hb =
    additive_agree (λ x. (2 ^ i ⊗ x) % 256) (λ x. 2 ^ i ⊗ x)
    (λ x y. ap (λ z. z % 256) (product_sum_right (2 ^ i) x y) ∙ xor_mod (2 ^ i ⊗ x) (2 ^ i ⊗ y) 8)
    (product_sum_right (2 ^ i))
    8 (λ j hj. byte_at i j hi hj) b hb

-- The product of two bytes is its own low byte.
byte_product : (a b : ℕ) → a < 2 ^ 8 → b < 2 ^ 8 → (a ⊗ b) % 256 ≡ a ⊗ b
byte_product a b ha hb =
    additive_agree (λ x. (x ⊗ b) % 256) (λ x. x ⊗ b)
    (λ x y. ap (λ z. z % 256) (product_sum_left x y b) ∙ xor_mod (x ⊗ b) (y ⊗ b) 8) (λ x y. product_sum_left x y b)
    8 (λ i hi. byte_second i b hi hb) a ha

-- A product is a byte.
pub product_below : (a b : ℕ) → a ⊗ b < 256
product_below a b =
    let e : a ⊗ b ≡ (a % 256) ⊗ (b % 256) = sym (product_low_left a b) ∙ sym (product_low_right (a % 256) b) in
    subst (λ x. x < 256) (byte_product (a % 256) (b % 256) (byte_below a) (byte_below b) ∙ sym e)
    (mod_below ((a % 256) ⊗ (b % 256)) 256 (omega arith))

-- A sum of bytes is a byte.
pub sum_below : (a b : ℕ) → a < 256 → b < 256 → a ⊕ b < 256
sum_below a b ha hb = xor_lt 8 a b ha hb

-- ---- Inverses
-- This is the power 2 ^ (n + 1) - 2 of an element, by repeated squaring.
unfoldable pub inverse_power : ℕ → ℕ → ℕ
inverse_power zero a = 1
inverse_power (suc n) a = let s = a ⊗ a in s ⊗ inverse_power n s

-- The inverse of a byte other than 0 is its power 254.
pub inverse_of : ℕ → ℕ
inverse_of a = inverse_power 7 a

-- The inverse of an element is a byte.
pub inverse_below : (a : ℕ) → inverse_of a < 256
unfolding inverse_of inverse_power
inverse_below a = product_below (a ⊗ a) (inverse_power 6 (a ⊗ a))

-- Each byte other than 0 times its inverse is 1: 255 cases.
inverse_test : all_below 255 (λ a. eqb ((a + 1) ⊗ inverse_of (a + 1)) 1) ≡ true
unfolding all_below ◌⊗◌ carryless modulo_301 inverse_power inverse_of
inverse_test = refl

-- An element other than 0 times its inverse is 1.
pub product_inverse : (a : ℕ) → 0 < a → a < 256 → a ⊗ inverse_of a ≡ 1
product_inverse a l h =
    let e : a - 1 + 1 ≡ a = omega arith in
    subst (λ x. x ⊗ inverse_of x ≡ 1) e
    (eqb-true ((a - 1 + 1) ⊗ inverse_of (a - 1 + 1)) 1
    (all_below_at 255 (λ a. eqb ((a + 1) ⊗ inverse_of (a + 1)) 1) inverse_test (a - 1) (omega arith)))

-- An element has at most one inverse.
pub inverse_only : (a b c : ℕ) → b < 256 → c < 256 → a ⊗ b ≡ 1 → a ⊗ c ≡ 1 → b ≡ c
inverse_only a b c hb hc eb ec =
    sym (product_one_right b hb) ∙ ap (λ x. b ⊗ x) (sym ec) ∙ sym (product_assoc b a c)
    ∙ ap (λ x. x ⊗ c) (product_comm b a ∙ eb) ∙ product_one_left c hc

-- A factor that is not 0 is cancelled.
pub product_cancel : (a b : ℕ) → 0 < a → a < 256 → b < 256 → a ⊗ b ≡ 0 → b ≡ 0
product_cancel a b l ha hb e =
    sym (product_one_right b hb) ∙ ap (λ x. b ⊗ x) (sym (product_inverse a l ha))
    ∙ sym (product_assoc b a (inverse_of a))
    ∙ ap (λ x. x ⊗ inverse_of a) (product_comm b a ∙ e) ∙ product_zero_left (inverse_of a)

-- Two numbers whose sum is 0 are equal.
pub sum_zero : (a b : ℕ) → a ⊕ b ≡ 0 → a ≡ b
sum_zero a b e = sym (xor_zero_r a) ∙ ap (bit_xor a) (sym (xor_self b)) ∙ sym (xor_assoc a b b) ∙ ap (λ x. x ⊕ b) e

-- An equal factor other than 0 is cancelled.
pub product_cancels : (a b c : ℕ) → 0 < a → a < 256 → b < 256 → c < 256 → a ⊗ b ≡ a ⊗ c → b ≡ c
product_cancels a b c l ha hb hc e =
    sum_zero b c
    (product_cancel a (b ⊕ c) l ha (sum_below b c hb hc) (product_sum_right a b c ∙ ap (λ x. x ⊕ a ⊗ c) e
    ∙ xor_self (a ⊗ c)))

-- ---- Powers
-- A power of an element is a byte.
pub raise_below : (x e : ℕ) → raise x e < 256
unfolding raise
raise_below x zero = omega arith
raise_below x (suc e) = product_below x (raise x e)

-- Exponents add up in a product.
pub raise_add : (x i j : ℕ) → raise x (i + j) ≡ raise x i ⊗ raise x j
unfolding raise
raise_add x zero j = simp zero-add (sym (product_one_left (raise x j) (raise_below x j)))
raise_add x (suc i) j = rw suc-add (ap (λ y. x ⊗ y) (raise_add x i j) ∙ sym (product_assoc x (raise x i) (raise x j)))

-- A power of a power multiplies the exponents.
pub raise_mul : (x i j : ℕ) → raise x (i * j) ≡ raise (raise x i) j
unfolding raise
raise_mul x i zero = ap (raise x) (mul-zero i)
raise_mul x i (suc j) =
    ap (raise x) (let e : i * suc j ≡ i + i * j = omega arith in e) ∙ raise_add x i (i * j)
    ∙ ap (λ y. raise x i ⊗ y) (raise_mul x i j)

-- Two exponents may be applied in either order.
pub raise_swap : (x i j : ℕ) → raise (raise x i) j ≡ raise (raise x j) i
raise_swap x i j = sym (raise_mul x i j) ∙ ap (raise x) (mul_comm i j) ∙ raise_mul x j i

-- A positive number is not 0.
pub positive_not : {n : ℕ} → 0 < n → n ≡ 0 → ⊥
positive_not l e = omega arith

-- A product of elements other than 0 is not 0.
pub product_positive : (a b : ℕ) → 0 < a → a < 256 → 0 < b → b < 256 → 0 < a ⊗ b
product_positive a b la ha lb hb = pos_of_ne-zero (λ z. positive_not lb (product_cancel a b la ha hb z))

-- A power of an element other than 0 is not 0.
pub raise_positive : (x e : ℕ) → 0 < x → x < 256 → 0 < raise x e
unfolding raise
raise_positive x zero l h = omega arith
raise_positive x (suc e) l h =
    let r : 0 < raise x e = raise_positive x e l h in
    pos_of_ne-zero (λ z. positive_not r (product_cancel x (raise x e) l h (raise_below x e) z))

-- The powers of 2 come back to 1 after 255 of them.
pub power_255 : power 255 ≡ 1
unfolding raise ◌⊗◌ carryless modulo_301
power_255 = refl

-- None of n elements is 1, of which x is the first and each other one is twice the one before it.
unfoldable none_is_one : ℕ → ℕ → Bool
none_is_one zero x = true
none_is_one (suc n) x = not (eqb x 1) && none_is_one n (2 ⊗ x)

-- No power of 2 with an exponent of 1 to 254 is 1: 254 cases.
power_test : none_is_one 254 2 ≡ true
unfolding none_is_one ◌⊗◌ carryless modulo_301
power_test = refl

-- Where none of the n powers of 2 from the exponent e on is 1, that with the exponent e + i isn't, for i below n.
none_is_one_at : (n e i : ℕ) → none_is_one n (power e) ≡ true → i < n → power (e + i) ≡ 1 → ⊥
unfolding none_is_one raise
none_is_one_at zero e i t l q = absurd (omega arith)
none_is_one_at (suc n) e zero t l q =
    eqb-false (power e) 1 (not-true (eqb (power e) 1)
    (and_parts (not (eqb (power e) 1)) (none_is_one n (power (suc e))) t).0) (ap power (sym (add-zero e)) ∙ q)
none_is_one_at (suc n) e (suc i) t l q =
    none_is_one_at n (suc e) i (and_parts (not (eqb (power e) 1)) (none_is_one n (power (suc e))) t).1 (omega arith)
    (ap power (let s : suc e + i ≡ e + suc i = omega arith in s) ∙ q)

-- No power of 2 with an exponent of 1 to 254 is 1.
power_one : (i : ℕ) → 0 < i → i < 255 → power i ≡ 1 → ⊥
unfolding raise ◌⊗◌ carryless modulo_301
power_one i l h e =
    none_is_one_at 254 1 (i - 1) power_test (omega arith) (ap power (let s : 1 + (i - 1) ≡ i = omega arith in s) ∙ e)

-- Powers of 2 whose exponents differ by less than 255 differ.
pub power_apart : (i j : ℕ) → i < j → j < i + 255 → power i ≡ power j → ⊥
power_apart i j h l e =
    let d : i + (j - i) ≡ j = omega arith in
    let p : power i ⊗ (power (j - i) ⊕ 1) ≡ 0 =
    product_sum_right (power i) (power (j - i)) 1
    ∙ ap (λ x. x ⊕ power i ⊗ 1) (sym (raise_add 2 i (j - i)) ∙ ap power d ∙ sym e)
    ∙ ap (bit_xor (power i)) (product_one_right (power i) (raise_below 2 i))
    ∙ xor_self (power i) in
    power_one (j - i) (omega arith) (omega arith)
    (sum_zero (power (j - i)) 1
    (product_cancel (power i) (power (j - i) ⊕ 1) (raise_positive 2 i (omega arith) (omega arith)) (raise_below 2 i)
    (sum_below (power (j - i)) 1 (raise_below 2 (j - i)) (omega arith)) p))

-- Powers of 2 with different exponents below 255 are different.
pub power_injective : (i j : ℕ) → i < 255 → j < 255 → power i ≡ power j → i ≡ j
power_injective i j hi hj e =
    elim (cases_order i j) [
      | inl s ↦ s
      | inr r ↦ elim r [
        | inl l ↦ absurd (power_apart i j l (omega arith) e)
        | inr g ↦ absurd (power_apart j i g (omega arith) (sym e))
      ]
    ]
