use Rattle.dm_words.proofs.Names.{◌+◌, ◌-◌, ◌≤◌, length, drop, take, row_pairs, row, part_values}
use Rattle.dm_words.specs.inner.Costs.{owed}
use Rattle.dm_words.proofs.RunWritten.{IsRunSoFar}
use Rattle.dm_words.proofs.smallest.run.write_run.Given as goal

abbrev pub invariant-loop-set : goal.invariant-loop-set
invariant-loop-set l = record {
  from : l.at + 1 ≤ l.next;
  within : l.next ≤ length l.items;
  held : l.held ≤ length l.words;
  budget : length (take l.held l.words) + owed (length (part_values l.part))
      (row_pairs l.set (row l.fn.setting (drop l.next l.items))) ≤ length l.words;
  so_far : IsRunSoFar l.set (take l.fn.held l.fn.words) (take l.held l.words) l.part
      (take (l.next - l.at) (drop l.at l.items));
}

abbrev pub decreases-loop-set : goal.decreases-loop-set
decreases-loop-set l = length l.items - l.next
