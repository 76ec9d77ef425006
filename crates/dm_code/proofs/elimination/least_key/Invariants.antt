use Rattle.dm_code.proofs.Connections.{NoneBelow}
use Rattle.dm_code.proofs.elimination.least_key.Given as goal

abbrev pub invariant-loop-degree : goal.invariant-loop-degree
invariant-loop-degree l = NoneBelow l.s l.degree
