use Rattle.std.proofs.Common.{◌≡◌, ◌-◌, ◌+◌, length, length-take, length-drop, take, drop, get_or, sym, ap, ◌∙◌, arith}
use Rattle.std.proofs.Common.{inl, inr}
use Rattle.std.proofs.lemmas.Bool.{cases_lt}
use Rattle.std.proofs.lemmas.List.{get_or_past}
use Rattle.std.proofs.lemmas.List.Edits.{get_or-between}
use lib.Bits.{xor_zero_r}
use Rattle.gf301.specs.Field.{◌⊕◌, ◌⊗◌}
use Rattle.gf301.proofs.Exported.{product_zero_right}
use Rattle.dm_code.proofs.Parts.{mid_before, mid_at, mid_past}
use Rattle.dm_code.proofs.quick.add_moved.Goals as goal

pub returns-clause-low : goal.returns-clause-low
returns-clause-low c = λ i h.
    let g = c.args.gap in
    mid_before g (g + 48 - g) c.args.locator.now c.add_scaled.new.sum i (omega arith) h

pub returns-clause-high : goal.returns-clause-high
returns-clause-high c = λ i.
    let g = c.args.gap in
    let b = c.args.locator.now in
    let e = c.args.earlier.now in
    let x = c.args.factor.0 in
    let v = g + 48 - g in
    let ys = c.add_scaled.new.sum in
    let ol : length (take v (drop g b)) ≡ v = simp (length-take, length-drop) (omega arith) in
    let yl : length ys ≡ v = c.add_scaled.ensures.long ∙ ol in
    elim (cases_lt i v) [
      | inl h ↦
          mid_at g v b ys i (omega arith) yl h
          ∙ c.add_scaled.ensures.each i (omega (arith, ol))
          ∙ ap (λ y. y ⊕ x ⊗ get_or e i 0) (get_or-between b g (g + 48) i 0 (omega arith))
      | inr h ↦
          mid_past g v b ys i (omega arith) yl h
          ∙ sym (ap (λ y. get_or b (g + i) 0 ⊕ y) (ap (λ y. x ⊗ y) (get_or_past e i 0 (omega arith))
          ∙ product_zero_right x) ∙ xor_zero_r (get_or b (g + i) 0))
    ]
