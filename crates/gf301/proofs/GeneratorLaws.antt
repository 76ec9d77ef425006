-- The generator polynomials: their lengths, values and roots.
use Rattle.std.proofs.Common.{◌≡◌, ℕ, zero, suc, ◌+◌, ◌<◌, ◌≤◌, List, [], ◌∷◌, length, refl, sym, ap, subst, ◌∙◌, arith}
use Rattle.std.proofs.Common.{inl, inr}
use lib.Bits.{xor_self, xor_zero_r}
use Rattle.std.proofs.Math.Nat.{pos_of_ne-zero}
use Rattle.std.proofs.lemmas.Bool.{cases_order}
use Rattle.gf301.specs.Field.{◌⊕◌, ◌⊗◌, raise, power}
use Rattle.gf301.specs.Polynomial.{Bytes, value, coefficient, convolution, times}
use Rattle.gf301.specs.Generator.{generator}
use Rattle.gf301.proofs.FieldLaws.{product_zero_left, product_zero_right, product_one_left, product_positive, sum_zero}
use Rattle.gf301.proofs.FieldLaws.{sum_below, raise_below, power_apart}
use Rattle.gf301.proofs.Weights.{bytes_cons}
use Rattle.gf301.proofs.PolyLaws.{length_times, get_or-times, bytes_times, value_times, value_below, factor_value}

-- The generator for k check codewords has k + 1 coefficients.
pub generator_length : (k : ℕ) → length (generator k) ≡ suc k
unfolding generator
generator_length zero = refl
generator_length (suc k) =
    let i : length (generator k) ≡ suc k = generator_length k in
    let l : length (times (1 ∷ power (suc k) ∷ []) (generator k)) + 1 ≡ 2 + length (generator k) =
    length_times (1 ∷ power (suc k) ∷ []) (generator k) (omega arith) in
    omega arith

-- The generator for k + 1 check codewords is that for k, times x - 2^(k + 1).
pub generator_is : (k : ℕ) → generator (suc k) ≡ times (1 ∷ power (suc k) ∷ []) (generator k)
unfolding generator
generator_is k = refl

-- The value of the generator for k + 1 check codewords at x is that of the generator for k, times x - 2^(k + 1).
pub generator_step : (k x : ℕ) → x < 256 → value (generator (suc k)) x ≡ (x ⊕ power (suc k)) ⊗ value (generator k) x
unfolding generator
generator_step k x h =
    value_times x (1 ∷ power (suc k) ∷ []) (generator k) (omega (arith, generator_length k))
    ∙ ap (λ y. y ⊗ value (generator k) x) (factor_value (power (suc k)) x (raise_below 2 (suc k)) h)

-- The powers 2^1 to 2^k are roots of the generator.
pub generator_root : (k i : ℕ) → i < k → value (generator k) (power (1 + i)) ≡ 0
generator_root zero i h = absurd (omega arith)
generator_root (suc k) i h =
    generator_step k (power (1 + i)) (raise_below 2 (1 + i))
    ∙ elim (cases_order i k) [
      | inl s ↦ ap (λ y. y ⊗ value (generator k) (power (1 + i)))
          (ap (λ j. power (1 + i) ⊕ power j) (let e : suc k ≡ 1 + i = omega arith in e) ∙ xor_self (power (1 + i)))
          ∙ product_zero_left (value (generator k) (power (1 + i)))
      | inr r ↦ elim r [
        | inl l ↦ ap (λ y. (power (1 + i) ⊕ power (suc k)) ⊗ y) (generator_root k i l)
            ∙ product_zero_right (power (1 + i) ⊕ power (suc k))
        | inr g ↦ absurd (omega arith)
      ]
    ]

-- The generator for no check codewords is 1.
pub value_one : (x : ℕ) → value (generator 0) x ≡ 1
unfolding generator value raise
value_one x = xor_zero_r (1 ⊗ 1) ∙ product_one_left 1 (omega arith)

-- No other power of 2 is a root of the generator: none from 2^(k + 1) to 2^255, which is 2^0.
pub generator_positive : (k j : ℕ) → k < j → j ≤ 255 → 0 < value (generator k) (power j)
generator_positive zero j h l = subst (λ y. 0 < y) (sym (value_one (power j))) (omega arith)
generator_positive (suc k) j h l =
    let d : 0 < power j ⊕ power (suc k) =
    pos_of_ne-zero (λ z. power_apart (suc k) j h (omega arith) (sym (sum_zero (power j) (power (suc k)) z))) in
    subst (λ y. 0 < y) (sym (generator_step k (power j) (raise_below 2 j)))
    (product_positive (power j ⊕ power (suc k)) (value (generator k) (power j)) d
    (sum_below (power j) (power (suc k)) (raise_below 2 j) (raise_below 2 (suc k)))
    (generator_positive k j (omega arith) l) (value_below (generator k) (power j)))

-- The coefficients of the generator are bytes.
pub bytes_generator : (k : ℕ) → Bytes (generator k)
unfolding generator
bytes_generator zero = bytes_cons 1 [] (omega arith) (λ i d h. absurd (omega arith))
bytes_generator (suc k) = bytes_times (1 ∷ power (suc k) ∷ []) (generator k)

-- The first coefficient of a product with x - r is 1 times that of the other factor.
first_times : (r : ℕ) (g : List ℕ) → 0 < length g → coefficient (times (1 ∷ r ∷ []) g) 0 ≡ 1 ⊗ coefficient g 0
unfolding convolution
first_times r g h = get_or-times (1 ∷ r ∷ []) g 0 (omega arith)

-- The first coefficient of the generator is 1.
pub generator_first : (k : ℕ) → coefficient (generator k) 0 ≡ 1
unfolding generator
generator_first zero = refl
generator_first (suc k) =
    first_times (power (suc k)) (generator k) (omega (arith, generator_length k))
    ∙ ap (λ a. 1 ⊗ a) (generator_first k) ∙ product_one_left 1 (omega arith)
