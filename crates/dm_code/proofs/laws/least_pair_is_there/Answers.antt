use Rattle.dm_code.proofs.LeastPairs.{least_exists}
use Rattle.dm_code.proofs.laws.least_pair_is_there.Goals as goal

pub returns : goal.returns
returns c = least_exists
