use Rattle.dm_text.proofs.EachLine.{line_is_there}
use Rattle.dm_text.proofs.OpenLineSteps.{line_unique}
use Rattle.dm_text.proofs.laws.each_line_means_one_thing.Goals as goal

pub returns-clause-some : goal.returns-clause-some
returns-clause-some c = line_is_there

pub returns-clause-one : goal.returns-clause-one
returns-clause-one c = line_unique
