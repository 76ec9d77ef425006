use Rattle.std.proofs.Common.{◌≡◌, ◌-◌, refl, sym, ap, ◌∙◌, arith}
use Rattle.gf301.specs.Field.{◌⊕◌, ◌⊗◌}
use Rattle.gf301.specs.Polynomial.{coefficient}
use Rattle.dm_code.specs.inner.LinearSystem.{dot}
use Rattle.dm_code.proofs.LinearLaws.{dot_step}
use Rattle.dm_code.proofs.system.dot_from.Goals as goal

pub loop-j-init : goal.loop-j-init
unfolding dot
loop-j-init c = record { from = omega (arith, c.requires); sum = refl }

pub loop-j-preserved : goal.loop-j-preserved
loop-j-preserved c =
    let f = coefficient c.args.f.now in
    let v = coefficient c.args.v.now in
    let j = c.loop-j.j in
    record {
      from = omega arith;
      sum =
          c.add-sum.ensures ∙ ap (λ y. y ⊕ c.loop-j.sum.0) c.mul.ensures
          ∙ ap (λ y. f (j - 1) ⊗ v (j - 1) ⊕ y) c.loop-j.invariant.sum
          ∙ sym (dot_step f v (j - 1) (35 - j) j (35 - (j - 1)) (omega arith) (omega arith));
    }

pub returns : goal.returns
returns c =
    c.loop-j.invariant.sum ∙ ap (λ j. dot (coefficient c.args.f.now) (coefficient c.args.v.now) j (35 - j))
    (let e : c.loop-j.j ≡ c.args.first = omega arith in e)
