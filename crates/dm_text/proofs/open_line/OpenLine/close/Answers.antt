use Rattle.dm_text.proofs.OpenLineSteps.{faulty_end}
use Rattle.dm_text.proofs.open_line.OpenLine.close.Goals as goal

pub returns-in-Faulty : goal.returns-in-Faulty
returns-in-Faulty c line facts = faulty_end line c.in-Faulty.column (rw (← c.self.view_is, c.in-Faulty.is) at facts)
