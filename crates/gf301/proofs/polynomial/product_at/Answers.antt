use Rattle.std.proofs.Common.{◌-◌, take, get_or, sym, ap, ◌∙◌, arith, bit_xor}
use Rattle.std.proofs.lemmas.List.{get_or_past, take_all}
use lib.Bits.{xor_zero_r}
use Rattle.gf301.specs.Field.{◌⊕◌, ◌⊗◌}
use Rattle.gf301.specs.Polynomial.{coefficient, convolution}
use Rattle.gf301.specs.declared.field.Gf.{Gf}
use Rattle.gf301.proofs.FieldLaws.{product_zero_right}
use Rattle.gf301.proofs.Series.{conv_nothing, conv_more, conv_more_past}
use Rattle.gf301.proofs.polynomial.product_at.Goals as goal
use Rattle.gf301.proofs.polynomial.product_at.Goals.{then-i-place+then-place-i, else-i-place}
use Rattle.gf301.proofs.polynomial.product_at.Goals.{else-i-place-via-then-i-place+else-place-i}
use Rattle.gf301.proofs.polynomial.product_at.Goals.{else-i-place-via-else-i-place}

pub loop-i-init : goal.loop-i-init
loop-i-init c = sym (conv_nothing (coefficient c.args.q.now) c.args.place)

pub loop-i-preserved : goal.loop-i-preserved
loop-i-preserved c =
    let p = c.args.p.now in
    let q = c.args.q.now in
    let n = c.args.place in
    let i = c.loop-i.i in
    let f = convolution (coefficient (take i p)) (coefficient q) n in
    elim c.if-i-place.branch [
      | then-i-place+then-place-i w ↦
          ap (λ (g : Gf). g.0) w.sum-is ∙ w.add-sum.ensures ∙ ap (λ y. y ⊕ w.mul.result.0) c.loop-i.invariant
          ∙ ap (bit_xor f) w.mul.ensures
          ∙ sym (conv_more p (coefficient q) n i (omega arith) (omega arith))
      | else-i-place w ↦
          ap (λ (g : Gf). g.0) w.sum-is ∙ c.loop-i.invariant
          ∙ elim w.else-i-place.branch [
            | else-i-place-via-then-i-place+else-place-i w' ↦
                sym (ap (bit_xor f) (ap (λ y. get_or p i 0 ⊗ y) (get_or_past q (n - i) 0 (omega arith))
                ∙ product_zero_right (get_or p i 0)) ∙ xor_zero_r f)
                ∙ sym (conv_more p (coefficient q) n i (omega arith) (omega arith))
            | else-i-place-via-else-i-place w' ↦ sym (conv_more_past p (coefficient q) n i (omega arith) (omega arith))
          ]
    ]

pub returns : goal.returns
returns c =
    c.loop-i.invariant
    ∙ ap (λ t. convolution (coefficient t) (coefficient c.args.q.now) c.args.place)
    (take_all c.loop-i.i c.args.p.now (omega arith))
