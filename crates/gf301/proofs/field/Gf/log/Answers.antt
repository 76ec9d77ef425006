use Rattle.std.proofs.Common.{◌≡◌, ◌<◌, get_or, arith, sym, ap, ◌∙◌}
use Rattle.gf301.specs.Field.{power}
use Rattle.gf301.specs.declared.field.TheConstants.{LOGS}
use Rattle.gf301.proofs.FieldLaws.{power_injective}
use Rattle.gf301.proofs.Tables.{logs_at}
use Rattle.gf301.proofs.field.Gf.log.Goals as goal

pub returns-clause-below : goal.returns-clause-below
returns-clause-below c = rw c.from.ensures (logs_at c.args.self.0 c.requires (omega arith)).0

pub returns-clause-power : goal.returns-clause-power
returns-clause-power c = rw c.from.ensures (logs_at c.args.self.0 c.requires (omega arith)).1

pub returns-clause-only : goal.returns-clause-only
returns-clause-only c = λ e h q.
    let p : (get_or LOGS c.args.self.0 0 < 255) × (power (get_or LOGS c.args.self.0 0) ≡ c.args.self.0) =
    logs_at c.args.self.0 c.requires (omega arith) in
    power_injective e (get_or LOGS c.args.self.0 0) h p.0 (q ∙ sym p.1) ∙ ap (λ i. get_or LOGS i 0) (sym c.from.ensures)
