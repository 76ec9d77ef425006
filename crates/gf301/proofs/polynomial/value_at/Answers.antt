use Rattle.std.proofs.Common.{◌<◌, length, take, get_or, refl, sym, ap, ◌∙◌, arith}
use Rattle.std.proofs.lemmas.List.{take_more}
use Rattle.gf301.specs.Field.{◌⊕◌, ◌⊗◌}
use Rattle.gf301.specs.Polynomial.{value}
use Rattle.gf301.proofs.PolyLaws.{value_push}
use Rattle.gf301.proofs.polynomial.value_at.Goals as goal

pub loop-c-init : goal.loop-c-init
unfolding value
loop-c-init c = refl

pub loop-c-preserved : goal.loop-c-preserved
loop-c-preserved c =
    let p = c.args.p.now in
    let i = c.loop-c.c-index in
    let x = c.args.at.0 in
    let b = get_or p i 0 in
    let l : i < length p = omega arith in
    let r : b < 256 = omega (arith, c.type_inv.p i) in
    c.add-sum.ensures ∙ ap (λ y. y ⊕ b) (c.mul.ensures ∙ ap (λ y. y ⊗ x) c.loop-c.invariant)
    ∙ sym (value_push (take i p) b x r) ∙ ap (λ t. value t x) (sym (take_more p i 0 l))
