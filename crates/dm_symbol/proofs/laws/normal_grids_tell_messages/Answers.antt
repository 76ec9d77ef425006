use Rattle.dm_symbol.proofs.GridNormals.{normal_grids_tell}
use Rattle.dm_symbol.proofs.laws.normal_grids_tell_messages.Goals as goal

pub returns : goal.returns
returns c = normal_grids_tell
