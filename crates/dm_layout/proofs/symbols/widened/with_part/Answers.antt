use Rattle.std.proofs.Common.{arith}
use Rattle.dm_layout.proofs.symbols.LongRows.{divided, left_over}
use Rattle.dm_layout.proofs.symbols.widened.with_part.Goals as goal

pub overflow_cast-result-3 : goal.overflow_cast-result-3
overflow_cast-result-3 c =
    record { fits = left_over c.args.part c.args.start 0 c.requires.part c.requires.some c.requires.before }

pub returns : goal.returns
returns c = divided c.args.row c.args.part c.args.start (omega (arith, c.requires.before)) c.requires.row
