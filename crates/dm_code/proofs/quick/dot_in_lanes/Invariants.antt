use Rattle.std.proofs.Common.{◌≡◌, ◌+◌, ◌*◌}
use Rattle.gf301.specs.Polynomial.{coefficient}
use Rattle.dm_code.specs.inner.LinearSystem.{dot}
use Rattle.dm_code.proofs.LaneDots.{total}
use Rattle.dm_code.proofs.quick.dot_in_lanes.Given as goal

abbrev pub invariant-loop-group : goal.invariant-loop-group
invariant-loop-group l =
    total l.sum ≡ dot (coefficient l.list) (λ i. coefficient l.other (l.first + i)) 0 (16 * l.group)
