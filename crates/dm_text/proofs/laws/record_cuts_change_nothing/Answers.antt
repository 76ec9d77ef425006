use Rattle.dm_text.proofs.RecordCuts.{fed_is_text, record_cuts}
use Rattle.dm_text.proofs.laws.record_cuts_change_nothing.Goals as goal

pub returns-clause-text : goal.returns-clause-text
returns-clause-text c = fed_is_text

pub returns-clause-same : goal.returns-clause-same
returns-clause-same c = record_cuts
