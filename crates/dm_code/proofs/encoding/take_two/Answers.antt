use Rattle.std.proofs.Common.{suc, ◌≤◌, get_or, bit_xor, inl, inr, sym, ap, ◌∙◌, arith}
use Rattle.std.proofs.lemmas.Bool.{cases_lt}
use Rattle.gf301.specs.Field.{◌⊕◌, ◌⊗◌}
use Rattle.gf301.specs.Polynomial.{coefficient}
use Rattle.gf301.specs.Generator.{generator}
use Rattle.dm_code.proofs.Division.{past_two}
use Rattle.dm_code.proofs.encoding.take_two.Goals as goal

pub returns-clause-each : goal.returns-clause-each
returns-clause-each g c = λ i.
    let k = c.args.k in
    let b = c.args.left.now in
    let a = c.args.first ⊕ get_or b 0 0 in
    let d = c.args.second ⊕ get_or b 1 0 in
    let w = get_or b (suc (suc i)) 0 in
    let row =
    coefficient (generator k) (suc (suc i)) ⊕ coefficient (generator k) 1 ⊗ coefficient (generator k) (suc i) in
    elim (cases_lt i g.row.WIDTH) [
      | inl o ↦
          c.move_and_add.ensures.moved i o
          ∙ ap (λ y. w ⊕ (a ⊗ y ⊕ d ⊗ get_or c.taps.result.now i 0)) (c.requires.row i o)
          ∙ ap (λ y. w ⊕ (a ⊗ row ⊕ d ⊗ y)) (c.taps.ensures i (omega arith))
      | inr o ↦
          let past : k ≤ i = omega arith in
          c.move_and_add.ensures.kept i o ∙ c.requires.past i past
          ∙ sym (ap (bit_xor w) (past_two k i a d past)
          ∙ ap (λ y. y ⊕ 0) (c.requires.past (suc (suc i)) (omega arith)))
    ]
