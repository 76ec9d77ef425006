use Rattle.std.proofs.Common.{get_or, sym, ap, ◌∙◌, arith, inl, inr}
use Rattle.std.proofs.lemmas.List.{get_or_past}
use Rattle.std.proofs.lemmas.Bool.{cases_lt}
use Rattle.gf301.specs.Field.{◌⊕◌, ◌⊗◌}
use Rattle.gf301.proofs.Exported.{product_zero_right}
use Rattle.dm_code.proofs.system.with_multiple.Goals as goal

pub returns : goal.returns
returns c j =
    elim (cases_lt j c.loop-j.j) [
      | inl h ↦ c.loop-j.invariant.done j h
      | inr h ↦
          get_or_past c.loop-j.sum j 0 (omega (arith, c.loop-j.invariant.long))
          ∙ sym (ap (λ y. y ⊕ c.args.x.0 ⊗ get_or c.args.g.now j 0) (get_or_past c.args.f.now j 0 (omega arith))
          ∙ ap (λ y. c.args.x.0 ⊗ y) (get_or_past c.args.g.now j 0 (omega arith)) ∙ product_zero_right c.args.x.0)
    ]
