use Rattle.std.proofs.Common.{◌≡◌, ◌+◌, ◌++◌, ◌∷◌, [], suc, length, sym, ap, ◌∙◌, arith}
use Rattle.gf301.specs.Polynomial.{coefficient, values_from}
use Rattle.gf301.proofs.Exported.{length-values_from, values_from_push}
use Rattle.dm_code.proofs.polynomial.first_coefficients.Goals as goal

pub loop-i-init : goal.loop-i-init
unfolding values_from
loop-i-init c = c.new-first.ensures

pub push-requires : goal.push-requires
push-requires c =
    omega (arith, ap length c.loop-i.invariant ∙ length-values_from (coefficient c.args.list.now) 0 c.loop-i.i)

pub loop-i-preserved : goal.loop-i-preserved
loop-i-preserved c =
    let f = coefficient c.args.list.now in
    let i = c.loop-i.i in
    c.push.ensures.items ∙ ap (λ t. t ++ c.coefficient_at.result.0 ∷ []) c.loop-i.invariant
    ∙ ap (λ y. values_from f 0 i ++ y ∷ []) (c.coefficient_at.ensures ∙ ap f (let q : i ≡ 0 + i = omega arith in q))
    ∙ sym (values_from_push f 0 i) ∙ ap (values_from f 0) (let q : suc i ≡ i + 1 = omega arith in q)
