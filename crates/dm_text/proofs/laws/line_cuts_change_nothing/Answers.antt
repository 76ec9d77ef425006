use Rattle.dm_text.proofs.LineCuts.{cuts_change_nothing, fed_is_text}
use Rattle.dm_text.proofs.laws.line_cuts_change_nothing.Goals as goal

pub returns-clause-text : goal.returns-clause-text
returns-clause-text c = fed_is_text

pub returns-clause-same : goal.returns-clause-same
returns-clause-same c = cuts_change_nothing
