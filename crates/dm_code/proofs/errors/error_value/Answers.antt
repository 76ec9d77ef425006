use Rattle.std.proofs.Common.{◌≡◌, ◌<◌, ℕ, sym, ap, subst, ◌∙◌, arith}
use Rattle.gf301.specs.Field.{◌⊗◌}
use Rattle.gf301.proofs.Exported.{product_assoc, product_below, product_comm, product_one_right}
use Rattle.dm_code.proofs.errors.error_value.Goals as goal

-- A number times the inverse of a divisor, times the divisor, is the number.
quotient_of : (d m y : ℕ) → m < 256 → d ⊗ y ≡ 1 → d ⊗ (m ⊗ y) ≡ m
quotient_of d m y h e =
    sym (product_assoc d m y) ∙ ap (λ z. z ⊗ y) (product_comm d m) ∙ product_assoc m d y ∙ ap (λ z. m ⊗ z) e
    ∙ product_one_right m h

pub returns-clause-value : goal.returns-clause-value
returns-clause-value c n =
    ap (λ y. c.args.divisor.0 ⊗ y) c.mul.ensures
    ∙ quotient_of c.args.divisor.0 c.args.numerator.0 c.inverse.result.0 (omega arith) c.inverse.ensures.product

pub returns-clause-byte : goal.returns-clause-byte
returns-clause-byte c = subst (λ z. z < 256) (sym c.mul.ensures) (product_below c.args.numerator.0 c.inverse.result.0)
