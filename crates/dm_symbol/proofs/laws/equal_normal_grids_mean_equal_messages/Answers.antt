use Rattle.dm_symbol.proofs.GridNormals.{equal_normals}
use Rattle.dm_symbol.proofs.laws.equal_normal_grids_mean_equal_messages.Goals as goal

pub returns : goal.returns
returns c = equal_normals
