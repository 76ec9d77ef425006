use Rattle.dm_words.proofs.Names.{◌≡◌, ◌+◌, ◌-◌, ◌≤◌, length, drop, take, Wide, row, waiting_values}
use Rattle.dm_words.specs.inner.Costs.{owed_group}
use Rattle.dm_words.proofs.GroupsWritten.{IsEdifactSoFar}
use Rattle.dm_words.proofs.smallest.edifact.write_edifact.Given as goal

abbrev pub invariant-loop-words : goal.invariant-loop-words
invariant-loop-words l = record {
  from : l.at + 1 ≤ l.next;
  within : l.next ≤ length l.items;
  wide : l.fn.setting.extent ≡ Wide;
  held : l.held ≤ length l.words;
  budget : length (take l.held l.words) + owed_group (length (waiting_values l.group))
      (row l.fn.setting (drop l.next l.items)).edifact ≤ length l.words;
  so_far : IsEdifactSoFar (take l.fn.held l.fn.words) (take l.held l.words) l.group
      (take (l.next - l.at) (drop l.at l.items));
}

abbrev pub decreases-loop-words : goal.decreases-loop-words
decreases-loop-words l = length l.items - l.next
