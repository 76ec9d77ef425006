use Rattle.std.proofs.Common.{◌≡◌, ◌*◌}
use Rattle.dm_code.specs.Syndromes.{syndromes_of}
use Rattle.dm_code.proofs.syndrome.syndromes_in_groups.Given as goal

abbrev pub invariant-loop-group : goal.invariant-loop-group
invariant-loop-group l = l.values.items ≡ syndromes_of l.word (16 * l.group)
