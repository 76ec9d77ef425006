use Rattle.std.proofs.Common.{refl}
use Rattle.dm_text.proofs.KeptRows.{end_holds, some_rest}
use Rattle.dm_text.proofs.rows.Rows.end_line.Goals as goal

pub returns-then-self : goal.returns-then-self
returns-then-self c lines rest h n =
    some_rest c.args.self.now _ lines rest h n (λ x r g. end_holds c.args.self.now _ lines x r g refl refl refl
    (λ k. refl) (λ k. absurd (c.if-self.true k)))

pub returns-else-self : goal.returns-else-self
returns-else-self c lines rest h n =
    some_rest c.args.self.now _ lines rest h n (λ x r g. end_holds c.args.self.now _ lines x r g refl refl refl
    (λ k. absurd (k c.if-self.false)) (λ k. refl))
