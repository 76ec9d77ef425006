-- The table of generator polynomials.
use Rattle.std.proofs.Common.{◌≡◌, ℕ, zero, suc, ◌<◌, ◌≤◌, List, [], ◌∷◌, length, get_or, refl, sym, ap, ◌∙◌, arith}
use Rattle.std.proofs.Common.{bit_xor, Bool, true, false, ◌&&◌, eqb, inl, inr}
use Rattle.std.proofs.lemmas.Bool.{and_parts, eqb-true, cases_lt}
use Rattle.std.proofs.lemmas.List.{get_or_past}
use lib.Bits.{xor_self}
use Rattle.gf301.specs.Field.{◌⊕◌, ◌⊗◌, carryless, modulo_301, power}
use Rattle.gf301.specs.Polynomial.{coefficient, times}
use Rattle.gf301.specs.Generator.{generator}
use Rattle.gf301.specs.declared.field.TheConstants.{POWERS}
use Rattle.gf301.specs.declared.tap_rows.TheConstants.{TAP_ROWS}
use Rattle.gf301.proofs.Additive.{all_below, all_below_at}
use Rattle.gf301.proofs.FieldLaws.{product_zero_right, product_one_left}
use Rattle.gf301.proofs.PolyLaws.{get_or-times}
use Rattle.gf301.proofs.Series.{conv_cons, conv_single}
use Rattle.gf301.proofs.GeneratorLaws.{generator_length, generator_first, generator_is, bytes_generator}
use Rattle.gf301.proofs.Tables.{powers_at}

-- The generator of a row has the coefficient 1 and then those of the row.
abbrev pub taps_of : ℕ → List ℕ
taps_of k = 1 ∷ get_or TAP_ROWS k []

-- The row for 0 has only zeros.
first_test : all_below 80 (λ i. eqb (get_or (get_or TAP_ROWS 0 []) i 0) 0) ≡ true
unfolding all_below
first_test = refl

-- A list has no more numbers than another one, and each is the other's at its place plus r times the other's before
-- that, which for the first is x.
unfoldable follows : ℕ → ℕ → List ℕ → List ℕ → Bool
follows r x ts [] = true
follows r x [] (u ∷ us) = false
follows r x (t ∷ ts) (u ∷ us) = eqb u (t ⊕ r ⊗ x) && follows r t ts us

-- A list that passes this test holds at the place i the other one's number there plus r times the one before that,
-- which is x at the first place.
follows_at : (r x i : ℕ) (ts us : List ℕ) → follows r x ts us ≡ true → i < length us →
    get_or us i 0 ≡ get_or ts i 0 ⊕ r ⊗ get_or (x ∷ ts) i 0
unfolding follows
follows_at r x i ts [] f l = absurd (omega arith)
follows_at r x i [] (u ∷ us) f l = let never : false ≡ true = f in cc
follows_at r x zero (t ∷ ts) (u ∷ us) f l =
    eqb-true u (t ⊕ r ⊗ x) (and_parts (eqb u (t ⊕ r ⊗ x)) (follows r t ts us) f).0
follows_at r x (suc i) (t ∷ ts) (u ∷ us) f l =
    follows_at r t i ts us (and_parts (eqb u (t ⊕ r ⊗ x)) (follows r t ts us) f).1 (omega arith)

-- The row behind that of k has 80 numbers, each that of the row of k plus the new root times the one before it.
row_test : ℕ → Bool
row_test k =
    eqb (length (get_or TAP_ROWS (suc k) [])) 80
    && follows (get_or POWERS (suc k) 0) 1 (get_or TAP_ROWS k []) (get_or TAP_ROWS (suc k) [])

-- So it is for each row: 5440 products, at most 2 seconds for this whole file.
rows_test : all_below 68 row_test ≡ true
unfolding all_below row_test follows ◌⊗◌ carryless modulo_301
rows_test = refl

-- A coefficient of the next row is that of this row plus the new root times the one before it.
row_step : (k i : ℕ) → k < 68 → i < 80 → get_or (taps_of (suc k)) (suc i) 0 ≡
    get_or (taps_of k) (suc i) 0 ⊕ power (suc k) ⊗ get_or (taps_of k) i 0
unfolding row_test
row_step k i h l =
    let row = get_or TAP_ROWS k [] in
    let next = get_or TAP_ROWS (suc k) [] in
    let t =
    and_parts (eqb (length next) 80) (follows (get_or POWERS (suc k) 0) 1 row next)
    (all_below_at 68 row_test rows_test k h) in
    follows_at (get_or POWERS (suc k) 0) 1 i row next t.1 (omega (arith, eqb-true (length next) 80 t.0))
    ∙ ap (λ p. get_or (taps_of k) (suc i) 0 ⊕ p ⊗ get_or (taps_of k) i 0) (powers_at (suc k) (omega arith))

-- A coefficient of a product with x - r is that of the other factor plus r times the one before it.
factor_at : (r i : ℕ) (g : List ℕ) → 0 < length g → suc i < suc (length g) →
    coefficient (times (1 ∷ r ∷ []) g) (suc i) ≡ 1 ⊗ coefficient g (suc i) ⊕ r ⊗ coefficient g i
factor_at r i g h l =
    get_or-times (1 ∷ r ∷ []) g (suc i) (omega arith) ∙ conv_cons 1 (r ∷ []) (coefficient g) i
    ∙ ap (bit_xor (1 ⊗ coefficient g (suc i))) (conv_single r (coefficient g) i)

-- A coefficient of the next generator is that of this one plus the new root times the one before it.
generator_at : (k i : ℕ) → coefficient (generator (suc k)) (suc i) ≡
    coefficient (generator k) (suc i) ⊕ power (suc k) ⊗ coefficient (generator k) i
generator_at k i =
    let g = generator k in
    let n : length g ≡ suc k = generator_length k in
    elim (cases_lt i (length g)) [
      | inl b ↦
          ap (λ p. coefficient p (suc i)) (generator_is k) ∙ factor_at (power (suc k)) i g (omega arith) (omega arith)
          ∙ ap (λ y. y ⊕ power (suc k) ⊗ coefficient g i)
          (product_one_left (coefficient g (suc i)) (coefficient_below k (suc i)))
      | inr b ↦
          get_or_past (generator (suc k)) (suc i) 0 (omega (arith, generator_length (suc k)))
          ∙ sym (ap (bit_xor (coefficient g (suc i))) (ap (λ y. power (suc k) ⊗ y) (get_or_past g i 0 (omega arith))
          ∙ product_zero_right (power (suc k)))
          ∙ ap (λ y. y ⊕ 0) (get_or_past g (suc i) 0 (omega arith)) ∙ xor_self 0)
    ]
  where
    coefficient_below : (k i : ℕ) → coefficient (generator k) i < 256
    coefficient_below k i =
        elim (cases_lt i (length (generator k))) [
          | inl b ↦ bytes_generator k i 0 b
          | inr b ↦ omega (arith, get_or_past (generator k) i 0 b)
        ]

-- Each row holds the coefficients of its generator.
row_is : (k i : ℕ) → k ≤ 68 → i ≤ 80 → get_or (taps_of k) i 0 ≡ coefficient (generator k) i
row_is k zero h l = sym (generator_first k)
row_is zero (suc i) h l =
    eqb-true _ _ (all_below_at 80 (λ i. eqb (get_or (get_or TAP_ROWS 0 []) i 0) 0) first_test i (omega arith))
    ∙ sym (get_or_past (generator 0) (suc i) 0 (omega (arith, generator_length 0)))
row_is (suc k) (suc i) h l =
    row_step k i (omega arith) (omega arith)
    ∙ ap (λ y. y ⊕ power (suc k) ⊗ get_or (taps_of k) i 0) (row_is k (suc i) (omega arith) l)
    ∙ ap (λ y. coefficient (generator k) (suc i) ⊕ power (suc k) ⊗ y) (row_is k i (omega arith) (omega arith))
    ∙ sym (generator_at k i)

-- The table holds for k the coefficients of the generator after the first.
pub taps_at : (k i : ℕ) → k ≤ 68 → i < 80 → get_or (get_or TAP_ROWS k []) i 0 ≡ coefficient (generator k) (suc i)
taps_at k i h l = row_is k (suc i) h (omega arith)
