use Rattle.std.proofs.Common.{◌≡◌, length, length-take, take, drop, get_or, inl, inr, sym, ap, ◌∙◌, arith}
use Rattle.std.proofs.lemmas.Bool.{cases_lt}
use Rattle.std.proofs.lemmas.List.{get_or_append_left, get_or-append_right, get_or-take, get_or-drop, length-append}
use Rattle.std.proofs.Common.{length-drop, ◌-◌}
use lib.Bits.{xor_zero_l}
use Rattle.gf301.specs.Field.{◌⊕◌, ◌⊗◌}
use Rattle.dm_code.proofs.Division.{past_one}
use Rattle.dm_code.proofs.encoding.take_one.Given as given
use Rattle.dm_code.proofs.encoding.take_one.Goals as goal

sum_length : (g : given.Over) (c : goal.After-add_scaled g) → length c.add_scaled.new.sum ≡ g.row.WIDTH
sum_length g c =
    let l : length (take g.row.WIDTH c.args.left.now) ≡ g.row.WIDTH =
    simp length-take (omega (arith, c.requires.narrow)) in
    c.add_scaled.ensures.long ∙ l

pub returns-clause-long : goal.returns-clause-long
returns-clause-long g c =
    let w = g.row.WIDTH in
    let b = c.args.left.now in
    let l : length (drop w b) ≡ 96 - w = simp length-drop (omega arith) in
    omega (arith, length-append c.add_scaled.new.sum (drop w b), sum_length g c, l, c.requires.narrow)

pub returns-clause-each : goal.returns-clause-each
returns-clause-each g c = λ i.
    let w = g.row.WIDTH in
    let b = c.args.left.now in
    let s = c.add_scaled.new.sum in
    let long = sum_length g c in
    elim (cases_lt i w) [
      | inl o ↦
          get_or_append_left s (drop w b) 0 i (omega arith)
          ∙ c.add_scaled.ensures.each i (omega (arith, c.add_scaled.ensures.long))
          ∙ ap (λ y. y ⊕ c.args.first ⊗ get_or c.taps.result.now i 0) (get_or-take w b i 0 o ∙ c.requires.zeros i)
          ∙ xor_zero_l (c.args.first ⊗ get_or c.taps.result.now i 0)
          ∙ ap (λ y. c.args.first ⊗ y) (c.taps.ensures i (omega (arith, c.requires.narrow)))
      | inr o ↦
          get_or-append_right s (drop w b) w i 0 long o ∙ get_or-drop w b (i - w) 0 ∙ c.requires.zeros _
          ∙ sym (past_one c.args.k i c.args.first (omega (arith, c.requires.enough)))
    ]
