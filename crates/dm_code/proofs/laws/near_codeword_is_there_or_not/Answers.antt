use Rattle.dm_code.proofs.NearOrNone.{near_or_none}
use Rattle.dm_code.proofs.laws.near_codeword_is_there_or_not.Goals as goal

pub returns : goal.returns
returns c = near_or_none
