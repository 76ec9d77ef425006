use Rattle.std.proofs.Common.{◌≡◌, ◌-◌, suc, length, get_or, slice_set, refl, sym, ap, ◌∙◌, arith, inl, inr, length-set}
use Rattle.std.proofs.lemmas.Bool.{cases_eq}
use Rattle.std.proofs.lemmas.List.{get_or-set_same, get_or-set_other}
use Rattle.dm_code.proofs.BerlekampMassey.{zeros_everywhere}
use Rattle.dm_code.proofs.quick.backwards.Goals as goal

pub loop-i-init : goal.loop-i-init
loop-i-init c = record { long = refl; done = λ j h. absurd (omega arith); zeros = λ j h. zeros_everywhere 116 j }

pub loop-i-preserved : goal.loop-i-preserved
loop-i-preserved c =
    let s = c.args.s.now in
    let i = c.loop-i.i in
    let b = c.loop-i.back in
    let p = length s - 1 - i in
    let y = get_or s i 0 in
    let v = c.loop-i.invariant in
    record {
      long = length-set b p y ∙ v.long;
      done = λ j h. elim (cases_eq j i) [
        | inl e ↦
            ap (λ m. get_or (slice_set b p y) m 0) (let q : length s - suc j ≡ p = omega arith in q)
            ∙ get_or-set_same b p y 0 (omega (arith, v.long, c.requires)) ∙ ap (λ m. get_or s m 0) (sym e)
        | inr e ↦ get_or-set_other b p (length s - suc j) y 0 (λ q. e (omega arith)) ∙ v.done j (omega arith)
      ];
      zeros = λ j h. get_or-set_other b p j y 0 (λ q. absurd (omega arith)) ∙ v.zeros j h;
    }
