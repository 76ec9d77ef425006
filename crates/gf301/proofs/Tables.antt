-- The rules of the two tables.
use Rattle.std.proofs.Common.{◌≡◌, ℕ, zero, suc, ◌+◌, ◌-◌, ◌*◌, ◌/◌, ◌%◌, ◌<◌, List, [], ◌∷◌, length, get_or, refl, sym}
use Rattle.std.proofs.Common.{ap, subst, ◌∙◌, arith, Bool, true, ◌&&◌, eqb, ltb}
use Rattle.std.proofs.lemmas.Bool.{and_parts, eqb-true, ltb-true}
use Rattle.std.proofs.Math.Nat.{add-zero}
use Rattle.gf301.specs.Field.{◌⊗◌, carryless, modulo_301, raise, power}
use Rattle.gf301.specs.declared.field.TheConstants.{POWERS, LOGS}
use Rattle.gf301.proofs.Additive.{all_below, all_below_at}
use Rattle.gf301.proofs.FieldLaws.{product_one_left, raise_below, raise_add, raise_mul, power_255}

-- Each element is twice the one before it.
unfoldable doubling : ℕ → List ℕ → Bool
doubling x [] = true
doubling x (y ∷ ys) = eqb y x && doubling (2 ⊗ y) ys

-- The table of powers begins with 1 and doubles.
powers_test : doubling 1 POWERS ≡ true
unfolding doubling ◌⊗◌ carryless modulo_301
powers_test = refl

-- A list that begins with a power of 2 and doubles holds at each place the power there.
doubling_at : (ys : List ℕ) (e i : ℕ) → doubling (power e) ys ≡ true → i < length ys → get_or ys i 0 ≡ power (e + i)
unfolding doubling raise
doubling_at [] e i h l = absurd (omega arith)
doubling_at (y ∷ ys) e zero h l =
    eqb-true y (power e) (and_parts (eqb y (power e)) (doubling (2 ⊗ y) ys) h).0 ∙ ap power (sym (add-zero e))
doubling_at (y ∷ ys) e (suc i) h l =
    let p : (eqb y (power e) ≡ true) × (doubling (2 ⊗ y) ys ≡ true) =
    and_parts (eqb y (power e)) (doubling (2 ⊗ y) ys) h in
    doubling_at ys (suc e) i (subst (λ z. doubling (2 ⊗ z) ys ≡ true) (eqb-true y (power e) p.0) p.1) (omega arith)
    ∙ ap power (let q : suc e + i ≡ e + suc i = omega arith in q)

-- The table of powers holds at each place the power of 2.
pub powers_at : (i : ℕ) → i < 255 → get_or POWERS i 0 ≡ power i
unfolding raise
powers_at i h = doubling_at POWERS 0 i powers_test h ∙ ap power (let q : 0 + i ≡ i = omega arith in q)

-- The table of logarithms leads back from a through that of powers.
log_test : ℕ → Bool
log_test a = ltb (get_or LOGS a 0) 255 && eqb (get_or POWERS (get_or LOGS a 0) 0) a

-- The table of logarithms passes its test for each of the 255 elements other than 0.
logs_test : all_below 255 (λ a. log_test (a + 1)) ≡ true
unfolding all_below log_test
logs_test = refl

-- The table of logarithms holds at each element other than 0 its logarithm, below 255.
pub logs_at : (a : ℕ) → 0 < a → a < 256 → (get_or LOGS a 0 < 255) × (power (get_or LOGS a 0) ≡ a)
unfolding log_test
logs_at a l h =
    let e : a - 1 + 1 ≡ a = omega arith in
    let t : log_test a ≡ true =
    subst (λ x. log_test x ≡ true) e (all_below_at 255 (λ a. log_test (a + 1)) logs_test (a - 1) (omega arith)) in
    let p : (ltb (get_or LOGS a 0) 255 ≡ true) × (eqb (get_or POWERS (get_or LOGS a 0) 0) a ≡ true) =
    and_parts (ltb (get_or LOGS a 0) 255) (eqb (get_or POWERS (get_or LOGS a 0) 0) a) t in
    let b : get_or LOGS a 0 < 255 = ltb-true (get_or LOGS a 0) 255 p.0 in
    (b, sym (powers_at (get_or LOGS a 0) b) ∙ eqb-true (get_or POWERS (get_or LOGS a 0) 0) a p.1)

-- Powers of 1 are 1.
raise_one : (n : ℕ) → raise 1 n ≡ 1
unfolding raise
raise_one zero = refl
raise_one (suc n) = product_one_left (raise 1 n) (raise_below 1 n) ∙ raise_one n

-- The powers of 2 repeat after 255 of them.
pub power_mod : (e : ℕ) → power (e % 255) ≡ power e
power_mod e =
    sym (product_one_left (power (e % 255)) (raise_below 2 (e % 255)))
    ∙ ap (λ y. y ⊗ power (e % 255)) (sym (raise_mul 2 255 (e / 255) ∙ ap (λ y. raise y (e / 255)) power_255
    ∙ raise_one (e / 255)))
    ∙ sym (raise_add 2 (255 * (e / 255)) (e % 255))
    ∙ ap power (let q : 255 * (e / 255) + e % 255 ≡ e = omega arith in q)
