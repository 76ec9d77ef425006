use Rattle.std.proofs.Common.{◌≡◌, ◌*◌, ◌≤◌, length}
use Rattle.dm_code.specs.Syndromes.{syndromes_of}
use Rattle.dm_code.proofs.syndrome.syndromes_of_short.Given as goal

abbrev pub invariant-loop-group : goal.invariant-loop-group
invariant-loop-group l = record {
  values : l.values.items ≡ syndromes_of l.word (length l.values.items);
  whole : 16 * l.group ≤ l.k → length l.values.items ≡ 16 * l.group;
  last : l.k ≤ 16 * l.group → length l.values.items ≡ l.k;
}
