use Rattle.dm_symbol.proofs.Names.{refl}
use Rattle.dm_symbol.proofs.reading.message_said.Goals as goal

pub returns-in-Err-clause-refused : goal.returns-in-Err-clause-refused
returns-in-Err-clause-refused c = (c.in-Err.ensures.read.fault c.in-Err.fault).0 refl

pub returns-clause-spelled : goal.returns-clause-spelled
returns-clause-spelled c = (c.in-Ok.ensures.read.message c.message_to.new.message).0 refl
