use Rattle.std.proofs.Common.{◌≡◌, ◌-◌}
use Rattle.dm_code.specs.Syndromes.{syndromes_of}
use Rattle.dm_code.proofs.syndrome.syndromes.Given as goal

abbrev pub invariant-loop-i : goal.invariant-loop-i
invariant-loop-i l = l.values.items ≡ syndromes_of l.word (l.i - 1)
