use Rattle.std.proofs.Common.{◌≡◌, suc, ◌+◌, ◌-◌, length, [], ◌∷◌, ◌++◌, arith, sym, ap, ◌∙◌}
use Rattle.gf301.specs.Field.{power}
use Rattle.gf301.specs.Polynomial.{times}
use Rattle.gf301.specs.Generator.{generator}
use Rattle.gf301.proofs.GeneratorLaws.{generator_length, generator_is}
use Rattle.gf301.proofs.generators.generator.Goals as goal

pub loop-i-init : goal.loop-i-init
unfolding generator
loop-i-init c = c.push.ensures.items ∙ ap (λ t. t ++ 1 ∷ []) c.new-product.ensures

pub times-product-requires-clause-right_filled : goal.times-product-requires-clause-right_filled
times-product-requires-clause-right_filled c =
    omega (arith, ap length (c.deref.ensures.0 ∙ c.loop-i.invariant), generator_length (c.loop-i.i - 1))

pub times-product-requires-clause-fits : goal.times-product-requires-clause-fits
times-product-requires-clause-fits c =
    omega (arith, ap length (c.deref.ensures.0 ∙ c.loop-i.invariant), generator_length (c.loop-i.i - 1))

pub loop-i-preserved : goal.loop-i-preserved
loop-i-preserved c =
    let j = c.loop-i.i - 1 in
    let e : c.loop-i.i ≡ suc j = omega arith in
    c.times-product.ensures
    ∙ ap (λ a. times (1 ∷ a ∷ []) c.deref.result.now) (c.power_of_two.ensures ∙ ap power e)
    ∙ ap (times (1 ∷ power (suc j) ∷ [])) (c.deref.ensures.0 ∙ c.loop-i.invariant)
    ∙ sym (generator_is j) ∙ ap generator (let d : suc j ≡ c.loop-i.i + 1 - 1 = omega arith in d)

pub returns : goal.returns
returns c = c.loop-i.invariant ∙ ap generator (let e : c.loop-i.i - 1 ≡ c.args.k = omega arith in e)
