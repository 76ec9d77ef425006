use Rattle.std.proofs.Common.{arith}
use Rattle.dm_code.proofs.encoding.divide.Goals as goal

pub divide_in-requires-in-3-clause-enough : goal.divide_in-requires-in-3-clause-enough
divide_in-requires-in-3-clause-enough c = omega arith
