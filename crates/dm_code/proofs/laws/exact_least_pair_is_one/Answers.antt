use Rattle.dm_code.proofs.Pairs.{exact_one}
use Rattle.dm_code.proofs.laws.exact_least_pair_is_one.Goals as goal

pub returns : goal.returns
returns c = exact_one
