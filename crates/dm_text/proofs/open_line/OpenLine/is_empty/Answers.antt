use Rattle.std.proofs.lemmas.Bool.{eqb-true}
use Rattle.dm_text.specs.inner.OpenLines.{pending_bytes}
use Rattle.dm_text.proofs.OpenLineSteps.{faulty_some, good_empty_counts}
use Rattle.dm_text.proofs.open_line.OpenLine.is_empty.Goals as goal

pub returns-in-Faulty : goal.returns-in-Faulty
returns-in-Faulty c line facts = (
  λ t. cc,
  λ e. absurd (faulty_some line c.in-Faulty.field-0 (rw (← c.self.view_is, c.in-Faulty.is) at facts) e),
)

pub returns-else-good-eq0 : goal.returns-else-good-eq0
returns-else-good-eq0 c line facts = (
  λ t. absurd (c.if-good-eq0.false (eqb-true c.in-Good.good.prefix_length 0 t)),
  λ e. absurd (c.if-good-eq0.false (good_empty_counts line (pending_bytes c.in-Good.good.pending)
      c.in-Good.good.prefix_length c.in-Good.good.items
      (rw (← c.self.view_is, c.in-Good.is) at facts) e).0),
)
