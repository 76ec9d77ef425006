use Rattle.dm_code.proofs.Distance.{front_determines}
use Rattle.dm_code.proofs.laws.front_determines_checks.Goals as goal

pub returns : goal.returns
returns c = front_determines
