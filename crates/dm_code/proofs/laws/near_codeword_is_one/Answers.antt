use Rattle.dm_code.proofs.Distance.{near_one}
use Rattle.dm_code.proofs.laws.near_codeword_is_one.Goals as goal

pub returns : goal.returns
returns c = near_one
