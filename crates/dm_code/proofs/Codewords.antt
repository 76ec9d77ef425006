-- A word is a codeword exactly where its values at 2^1 to 2^k, the roots of the generator, are 0.
use Rattle.std.proofs.Common.{◌≡◌, ℕ, zero, suc, ◌+◌, ◌<◌, ◌≤◌, List, [], ◌∷◌, length, sym, ap, subst, ◌∙◌, arith}
use Rattle.std.proofs.Math.Nat.{le_refl}
use Rattle.gf301.specs.Field.{◌⊗◌, power}
use Rattle.gf301.specs.Polynomial.{value, times, Bytes}
use Rattle.gf301.specs.Generator.{generator}
use Rattle.gf301.proofs.Exported.{product_comm, product_zero_right, product_one_right, product_cancel, length_times}
use Rattle.gf301.proofs.Exported.{value_times, bytes_times, times_assoc, same_values, value_below, quotient}
use Rattle.gf301.proofs.Exported.{length_quotient, bytes_quotient, root_divides, generator_length, generator_is}
use Rattle.gf301.proofs.Exported.{generator_root, generator_positive, value_one}
use Rattle.dm_code.specs.Codeword.{IsCodeword}

-- The numbers of a codeword are field elements.
pub codeword_bytes : (k : ℕ) (w : List ℕ) → IsCodeword k w → Bytes w
codeword_bytes k w c = subst Bytes (sym c.2) (bytes_times c.0 (generator k))

-- A multiple of the generator is 0 at each of its roots.
pub codeword_values : (k : ℕ) (w : List ℕ) → IsCodeword k w → (i : ℕ) → i < k → value w (power (1 + i)) ≡ 0
codeword_values k w c i h =
    ap (λ t. value t (power (1 + i))) c.2
    ∙ value_times (power (1 + i)) c.0 (generator k) (omega (arith, generator_length k))
    ∙ ap (λ y. value c.0 (power (1 + i)) ⊗ y) (generator_root k i h)
    ∙ product_zero_right (value c.0 (power (1 + i)))

-- If a multiple of the generator has the next root too, the quotient has it, and the word is a multiple of the next
-- generator.
one_root_more : (k : ℕ) (w q : List ℕ) → suc k < 255 → length w ≤ 255 → suc k ≤ length w → Bytes q →
    w ≡ times q (generator k)
    → value w (power (suc k)) ≡ 0 → IsCodeword (suc k) w
one_root_more k w [] hk l hl b e z =
    absurd (omega (
      arith,
      length_times [] (generator k) (omega (arith, generator_length k)),
      ap length e,
      generator_length k,
    ))
one_root_more k w (a ∷ p) hk l hl b e z =
    let r = power (suc k) in
    let g = generator k in
    let n : length g ≡ suc k = generator_length k in
    let m : length w + 1 ≡ length (a ∷ p) + length g =
    ap (λ t. length t + 1) e ∙ length_times (a ∷ p) g (omega arith) in
    let v : value g r ⊗ value (a ∷ p) r ≡ 0 =
    product_comm (value g r) (value (a ∷ p) r) ∙ sym (value_times r (a ∷ p) g (omega arith))
    ∙ sym (ap (λ t. value t r) e) ∙ z in
    let y : value (a ∷ p) r ≡ 0 =
    product_cancel (value g r) (value (a ∷ p) r) (generator_positive k (suc k) (le_refl (suc k)) (omega arith))
    (value_below g r) (value_below (a ∷ p) r) v in (
      quotient r a p,
      bytes_quotient r a p b,
      e ∙ ap (λ t. times t g) (sym (root_divides r a p b y))
          ∙ times_assoc (quotient r a p) (1 ∷ r ∷ []) g (omega arith) (omega arith)
          (omega (arith, length_quotient r a p))
          ∙ ap (λ t. times (quotient r a p) t) (sym (generator_is k)),
    )

-- A word that is 0 at each root of the generator is a multiple of it.
pub codeword_from_values : (k : ℕ) (w : List ℕ) → k < 255 → length w ≤ 255 → k ≤ length w → Bytes w →
    ((i : ℕ) → i < k → value w (power (1 + i)) ≡ 0) → IsCodeword k w
codeword_from_values zero w hk l hl b v =
    let m : length (times w (generator 0)) + 1 ≡ length w + length (generator 0) =
    length_times w (generator 0) (omega (arith, generator_length 0)) in
    let n : length (generator 0) ≡ 1 = generator_length 0 in (
      w,
      b,
      same_values w (times w (generator 0)) (omega arith) l b (bytes_times w (generator 0))
          (λ x. sym (value_times x w (generator 0) (omega arith) ∙ ap (λ y. value w x ⊗ y) (value_one x)
          ∙ product_one_right (value w x) (value_below w x))),
    )
codeword_from_values (suc k) w hk l hl b v =
    let c : IsCodeword k w = codeword_from_values k w (omega arith) l (omega arith) b (λ i h. v i (omega arith)) in
    one_root_more k w c.0 hk l hl c.1 c.2 (ap (λ j. value w (power j)) (let e : suc k ≡ 1 + k = omega arith in e)
    ∙ v k (omega arith))
