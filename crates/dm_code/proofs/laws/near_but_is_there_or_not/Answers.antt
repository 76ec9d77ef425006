use Rattle.dm_code.proofs.NearOrNone.{near_but_or_none}
use Rattle.dm_code.proofs.laws.near_but_is_there_or_not.Goals as goal

pub returns : goal.returns
returns c = near_but_or_none
