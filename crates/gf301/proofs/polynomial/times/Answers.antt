use Rattle.std.proofs.Common.{◌≡◌, ◌+◌, ◌-◌, ◌++◌, ◌∷◌, [], suc, length, sym, ap, ◌∙◌, arith, zero-add}
use Rattle.gf301.specs.Polynomial.{coefficient, convolution, values_from}
use Rattle.gf301.proofs.PolyLaws.{length-values_from, times_values, values_from_push}
use Rattle.gf301.proofs.polynomial.times.Goals as goal

pub loop-place-init : goal.loop-place-init
unfolding values_from
loop-place-init c = c.new-product.ensures

pub push-requires : goal.push-requires
push-requires c =
    let f = convolution (coefficient c.args.p.now) (coefficient c.args.q.now) in
    omega (arith, ap length c.loop-place.invariant ∙ length-values_from f 0 c.loop-place.place)

pub loop-place-preserved : goal.loop-place-preserved
loop-place-preserved c =
    let f = convolution (coefficient c.args.p.now) (coefficient c.args.q.now) in
    let n = c.loop-place.place in
    c.push.ensures.items ∙ ap (λ t. t ++ c.product_at.result.0 ∷ []) c.loop-place.invariant
    ∙ ap (λ a. values_from f 0 n ++ a ∷ []) (c.product_at.ensures ∙ ap f (sym (zero-add n)))
    ∙ sym (values_from_push f 0 n) ∙ ap (values_from f 0) (let e : suc n ≡ n + 1 = omega arith in e)

pub returns : goal.returns
returns c =
    c.loop-place.invariant
    ∙ ap (values_from (convolution (coefficient c.args.p.now) (coefficient c.args.q.now)) 0)
    (let e : c.loop-place.place ≡ length c.args.p.now + length c.args.q.now - 1 = omega arith in e)
    ∙ sym (times_values c.args.p.now c.args.q.now)
