use Rattle.dm_symbol.proofs.GridNormals.{last_profile_decides}
use Rattle.dm_symbol.proofs.laws.the_last_profile_decides.Goals as goal

pub returns : goal.returns
returns c = last_profile_decides
