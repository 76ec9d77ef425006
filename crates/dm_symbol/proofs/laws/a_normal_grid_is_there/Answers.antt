use Rattle.dm_symbol.proofs.GridNormals.{normal_grid_is_there}
use Rattle.dm_symbol.proofs.laws.a_normal_grid_is_there.Goals as goal

pub returns : goal.returns
returns c = normal_grid_is_there
