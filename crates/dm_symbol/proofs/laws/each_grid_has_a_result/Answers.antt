use Rattle.dm_symbol.proofs.GridNormals.{normal_result_is_there}
use Rattle.dm_symbol.proofs.Grids.{read_result_is_there}
use Rattle.dm_symbol.proofs.laws.each_grid_has_a_result.Goals as goal

pub returns : goal.returns
returns c = record { read = read_result_is_there; normal = normal_result_is_there }
