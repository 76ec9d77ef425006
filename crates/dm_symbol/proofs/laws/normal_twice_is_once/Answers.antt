use Rattle.dm_symbol.proofs.GridNormals.{twice_is_once}
use Rattle.dm_symbol.proofs.laws.normal_twice_is_once.Goals as goal

pub returns : goal.returns
returns c = twice_is_once
