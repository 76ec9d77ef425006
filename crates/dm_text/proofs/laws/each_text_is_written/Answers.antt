use Rattle.dm_text.proofs.EachText.{done_is_there, out_is_there}
use Rattle.dm_text.proofs.laws.each_text_is_written.Goals as goal

pub returns-clause-out : goal.returns-clause-out
returns-clause-out c = out_is_there

pub returns-clause-done : goal.returns-clause-done
returns-clause-done c = done_is_there
