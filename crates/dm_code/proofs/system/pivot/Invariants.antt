use Rattle.std.proofs.Common.{◌≡◌, ◌<◌, ℕ}
use Rattle.dm_code.specs.inner.LinearSystem.{row}
use Rattle.dm_code.proofs.system.pivot.Given as goal

abbrev pub invariant-loop-k : goal.invariant-loop-k
invariant-loop-k l = (i : ℕ) → i < l.k → row l.rows i l.unknown ≡ 0
