use Rattle.dm_text.proofs.OpenLineSteps.{good_none}
use Rattle.dm_text.proofs.open_line.GoodLine.new.Goals as goal

pub returns : goal.returns
returns c = rw c.new.ensures good_none
