use Rattle.dm_symbol.proofs.Grids.{one_message, one_given}
use Rattle.dm_symbol.proofs.GridNormals.{one_normal_result}
use Rattle.dm_symbol.proofs.laws.one_message_is_read.Goals as goal

pub returns : goal.returns
returns c = record { message = one_message; read = one_given; normal = one_normal_result }
