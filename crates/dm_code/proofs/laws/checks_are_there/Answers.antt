use Rattle.dm_code.proofs.Checks.{checks_are_there}
use Rattle.dm_code.proofs.laws.checks_are_there.Goals as goal

pub returns : goal.returns
returns c = checks_are_there
