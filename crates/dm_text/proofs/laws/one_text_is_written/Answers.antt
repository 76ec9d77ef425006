use Rattle.dm_text.proofs.OneText.{one_done, one_out}
use Rattle.dm_text.proofs.laws.one_text_is_written.Goals as goal

pub returns-clause-out : goal.returns-clause-out
returns-clause-out c = one_out

pub returns-clause-done : goal.returns-clause-done
returns-clause-done c = one_done
