use Rattle.std.proofs.Common.{◌-◌}
use Rattle.dm_code.proofs.system.+solve.Given as goal

abbrev pub decreases-solve : goal.decreases-solve
decreases-solve l = 34 - l.first
