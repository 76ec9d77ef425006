use Rattle.std.proofs.Common.{◌≡◌, ◌≤◌, ◌-◌}
use Rattle.gf301.specs.Polynomial.{coefficient}
use Rattle.dm_code.specs.inner.LinearSystem.{dot}
use Rattle.dm_code.proofs.system.dot_from.Given as goal

abbrev pub invariant-loop-j : goal.invariant-loop-j
invariant-loop-j l = record {
  from : l.first ≤ l.j;
  sum : l.sum.0 ≡ dot (coefficient l.f) (coefficient l.v) l.j (35 - l.j);
}
