use Rattle.std.proofs.Common.{◌∙◌, ap, sym, Ok}
use Rattle.dm_code.proofs.CleanWords.{distance_self, near_self}
use Rattle.dm_code.proofs.correction.correct.Goals as goal

pub returns-then-changed-eq0-clause-near : goal.returns-then-changed-eq0-clause-near
returns-then-changed-eq0-clause-near g c =
    near_self c.args.k c.args.word.now c.copy_of.result.items c.copy_of.ensures
    (c.correct_to.ensures.itself.0 (c.in_ok-changed.was ∙ ap (λ n. Ok n) c.if-changed-eq0.true))

pub returns-then-changed-eq0-clause-changed : goal.returns-then-changed-eq0-clause-changed
returns-then-changed-eq0-clause-changed g c =
    c.if-changed-eq0.true ∙ sym (distance_self c.args.word.now c.copy_of.result.items c.copy_of.ensures)
