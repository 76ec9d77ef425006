-- The table of powers of powers.
use Rattle.std.proofs.Common.{◌≡◌, ℕ, zero, suc, ◌+◌, ◌-◌, ◌*◌, ◌%◌, ◌<◌, ◌≤◌, List, [], ◌∷◌, ◌++◌, length, get_or, map}
use Rattle.std.proofs.Common.{take, drop, refl, sym, ap, ◌∙◌, arith, Bool, true, ◌&&◌, eqb, inl, inr}
use Rattle.std.proofs.lemmas.Bool.{and_parts, eqb-true, cases_lt}
use Rattle.std.proofs.lemmas.List.{get_or-map, length-map, ext_get_or, take-take, get_or-drop, get_or_append_left}
use Rattle.std.proofs.lemmas.List.{get_or-append_right}
use Rattle.std.proofs.lemmas.Nat.{mul-le}
use Rattle.std.proofs.lemmas.Simd.{length-chunk, get_or-chunk}
use lib.Lanes.{chunk}
use Rattle.gf301.specs.Field.{◌⊗◌, raise, power}
use Rattle.gf301.specs.Polynomial.{values_from}
use Rattle.gf301.specs.declared.field.TheConstants.{POWERS}
use Rattle.gf301.specs.declared.power_rows.TheConstants.{POWER_ROWS}
use Rattle.gf301.proofs.Additive.{all_below, all_below_at}
use Rattle.gf301.proofs.FieldLaws.{raise_add, raise_mul}
use Rattle.gf301.proofs.PolyLaws.{length-values_from, get_or-values_from}
use Rattle.gf301.proofs.Tables.{powers_at, power_mod}

-- The row of an exponent is the one at this place of the table.
abbrev pub row : ℕ → List ℕ
row e = get_or POWER_ROWS e []

-- The numbers of a list are those of another one at the places 0, e, 2 * e and so on, or 0 behind its end.
unfoldable strides : ℕ → List ℕ → List ℕ → Bool
strides e ps [] = true
strides e ps (y ∷ ys) = eqb y (get_or ps 0 0) && strides e (drop e ps) ys

-- A list that passes this test holds at the place j the number at the place e * j of the other one.
strides_at : (e j : ℕ) (ps ys : List ℕ) → strides e ps ys ≡ true → j < length ys → get_or ys j 0 ≡ get_or ps (e * j) 0
unfolding strides
strides_at e j ps [] t l = absurd (omega arith)
strides_at e zero ps (y ∷ ys) t l =
    eqb-true y (get_or ps 0 0) (and_parts (eqb y (get_or ps 0 0)) (strides e (drop e ps) ys) t).0
    ∙ ap (λ i. get_or ps i 0) (let q : 0 ≡ e * 0 = omega arith in q)
strides_at e (suc j) ps (y ∷ ys) t l =
    strides_at e j (drop e ps) ys (and_parts (eqb y (get_or ps 0 0)) (strides e (drop e ps) ys) t).1 (omega arith)
    ∙ get_or-drop e ps (e * j) 0 ∙ ap (λ i. get_or ps i 0) (let q : e + e * j ≡ e * suc j = omega arith in q)

-- The table of powers, n more times behind itself.
unfoldable rounds : ℕ → List ℕ
rounds zero = POWERS
rounds (suc n) = POWERS ++ rounds n

-- So many tables of powers, one behind another, hold the power i of 2 at each place i, since the powers repeat.
rounds_at : (n i : ℕ) → i < 255 * suc n → get_or (rounds n) i 0 ≡ power i
unfolding rounds
rounds_at zero i h = powers_at i (omega arith)
rounds_at (suc n) i h =
    elim (cases_lt i 255) [
      | inl b ↦ get_or_append_left POWERS (rounds n) 0 i b ∙ powers_at i b
      | inr b ↦
          get_or-append_right POWERS (rounds n) 255 i 0 refl b ∙ rounds_at n (i - 255) (omega arith)
          ∙ sym (power_mod (i - 255)) ∙ ap power (let q : (i - 255) % 255 ≡ i % 255 = omega arith in q) ∙ power_mod i
    ]

-- The row of e has the numbers at each e-th step through as many tables of powers as that takes.
row_test : ℕ → Bool
row_test e = strides e (rounds e) (row e)

-- So it is for each row: 8960 numbers, at most 2 seconds for this whole file.
rows_test : all_below 35 row_test ≡ true
unfolding all_below row_test strides rounds
rows_test = refl

-- Each row has 256 numbers: 35 cases.
lengths_test : all_below 35 (λ e. eqb (length (row e)) 256) ≡ true
unfolding all_below
lengths_test = refl

-- The row of an exponent has 256 numbers.
row_length : (e : ℕ) → e < 35 → length (row e) ≡ 256
row_length e h = eqb-true (length (row e)) 256 (all_below_at 35 (λ e. eqb (length (row e)) 256) lengths_test e h)

-- The row of e holds at the place j the power e * j of 2.
row_at : (e j : ℕ) → e < 35 → j < 256 → get_or (row e) j 0 ≡ power (e * j)
unfolding row_test
row_at e j h l =
    let within : e * j ≤ e * 255 = mul-le e j e 255 (omega arith) (omega arith) in
    strides_at e j (rounds e) (row e) (all_below_at 35 row_test rows_test e h) (omega (arith, row_length e h))
    ∙ rounds_at e (e * j) (omega arith)

-- Sixteen numbers of the row of e are the powers e of sixteen powers of 2 in their order.
row_lanes : (e first : ℕ) → e < 35 → first ≤ 240 →
    chunk first 16 (row e) ≡ map (λ x. raise x e) (values_from power first 16)
row_lanes e first h l =
    let n : length (chunk first 16 (row e)) ≡ 16 = length-chunk first 16 (row e) (omega (arith, row_length e h)) in
    ext_get_or 0 (chunk first 16 (row e)) (map (λ x. raise x e) (values_from power first 16))
    (n ∙ sym (length-map (values_from power first 16) (λ x. raise x e) ∙ length-values_from power first 16))
    (λ i b.
    let lt : i < 16 = omega (arith, n) in
    get_or-chunk first 16 (row e) i 0 lt ∙ row_at e (first + i) h (omega arith)
    ∙ ap power (let q : e * (first + i) ≡ (first + i) * e = omega arith in q) ∙ raise_mul 2 (first + i) e
    ∙ ap (λ x. raise x e) (sym (get_or-values_from power first 16 i lt))
    ∙ sym (get_or-map (λ x. raise x e) (values_from power first 16) i 0 0
    (omega (arith, length-values_from power first 16))))

-- These are read from the part of the row that begins with the first of them.
pub row_read : (e first : ℕ) → e < 35 → first ≤ 240 →
    take 16 (take (length (row e) - first) (drop first (row e))) ≡ map (λ x. raise x e) (values_from power first 16)
row_read e first h l =
    take-take 16 (length (row e) - first) (drop first (row e)) (omega (arith, row_length e h)) ∙ row_lanes e first h l

-- The first sixteen powers of 2, times the one with an exponent, are those from this exponent on.
pub later_powers : (first : ℕ) → map (λ x. power first ⊗ x) (chunk 0 16 POWERS) ≡ values_from power first 16
later_powers first =
    let n : length (chunk 0 16 POWERS) ≡ 16 = refl in
    let m : length (map (λ x. power first ⊗ x) (chunk 0 16 POWERS)) ≡ 16 =
    length-map (chunk 0 16 POWERS) (λ x. power first ⊗ x) ∙ n in
    ext_get_or 0 (map (λ x. power first ⊗ x) (chunk 0 16 POWERS)) (values_from power first 16) (m
    ∙ sym (length-values_from power first 16))
    (λ i b.
    let lt : i < 16 = omega (arith, m) in
    get_or-map (λ x. power first ⊗ x) (chunk 0 16 POWERS) i 0 0 (omega (arith, n))
    ∙ ap (λ y. power first ⊗ y) (get_or-chunk 0 16 POWERS i 0 lt
    ∙ ap (λ j. get_or POWERS j 0) (let q : 0 + i ≡ i = omega arith in q) ∙ powers_at i (omega arith))
    ∙ sym (raise_add 2 first i) ∙ sym (get_or-values_from power first 16 i lt))
