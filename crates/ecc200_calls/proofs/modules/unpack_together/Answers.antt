use Rattle.dm_layout.proofs.symbols.Exported.{sixteen_shown}
use Rattle.ecc200_calls.proofs.modules.unpack_together.Goals as goal

pub returns : goal.returns
returns c = rw (sixteen_shown 1 0 c.args.cells)
