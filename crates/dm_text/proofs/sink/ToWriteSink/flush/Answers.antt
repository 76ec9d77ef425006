use Rattle.std.proofs.Common.{refl}
use Rattle.dm_text.proofs.sink.ToWriteSink.flush.Goals as goal

pub returns-clause-clear : goal.returns-clause-clear
returns-clause-clear g c = refl
