use Rattle.dm_symbol.proofs.GridNormals.{normal_is_read}
use Rattle.dm_symbol.proofs.laws.normal_grid_is_read.Goals as goal

pub returns : goal.returns
returns c = normal_is_read
