use Rattle.dm_text.proofs.OpenLineSteps.{good_none}
use Rattle.dm_text.proofs.open_line.GoodLine.clear.Goals as goal

pub returns-in-Some : goal.returns-in-Some
returns-in-Some c = rw c.clear.ensures good_none

pub returns-in-None : goal.returns-in-None
returns-in-None c = rw c.new.ensures good_none
