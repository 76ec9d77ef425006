use Rattle.dm_code.proofs.Pairs.{one_least}
use Rattle.dm_code.proofs.laws.least_pair_is_one.Goals as goal

pub returns : goal.returns
returns c = one_least
