use Rattle.std.proofs.Common.{◌≡◌, ◌<◌, ℕ, ◌+◌, ◌-◌, arith, sym, ap, subst, ◌∙◌}
use Rattle.gf301.specs.Field.{◌⊗◌, power}
use Rattle.gf301.proofs.FieldLaws.{raise_add, raise_below, power_255, inverse_only}
use Rattle.gf301.proofs.field.Gf.inverse.Goals as goal

-- The product of an element and 2 to the power of 255 less its logarithm is 1.
product_is : (a log r : ℕ) → log < 255 → power log ≡ a → r ≡ power (255 - log) → a ⊗ r ≡ 1
product_is a log r h e p =
    ap (λ y. a ⊗ y) p ∙ ap (λ y. y ⊗ power (255 - log)) (sym e)
    ∙ sym (raise_add 2 log (255 - log))
    ∙ ap power (let q : log + (255 - log) ≡ 255 = omega arith in q)
    ∙ power_255

pub returns-clause-product : goal.returns-clause-product
returns-clause-product c =
    product_is c.args.self.0 c.log.result c.power_of_two.result.0 c.log.ensures.below c.log.ensures.power
    (c.power_of_two.ensures ∙ ap (λ j. power (255 - j)) c.from.ensures)

pub returns-clause-only : goal.returns-clause-only
returns-clause-only c = λ b h e.
    inverse_only c.args.self.0 b c.power_of_two.result.0 h
    (subst (λ x. x < 256) (sym c.power_of_two.ensures) (raise_below 2 (255 - c.from.result)))
    e (product_is c.args.self.0 c.log.result c.power_of_two.result.0 c.log.ensures.below c.log.ensures.power
    (c.power_of_two.ensures ∙ ap (λ j. power (255 - j)) c.from.ensures))
