use Rattle.dm_words.proofs.Names.{◌≡◌, ◌+◌, ◌-◌, ◌≤◌, length, drop, take, false, has_fnc1}
use Rattle.dm_words.proofs.SegmentBudget.{IsSegmentSoFar}
use Rattle.dm_words.proofs.smallest.segment.segment_end.Given as goal

abbrev pub invariant-loop-next : goal.invariant-loop-next
invariant-loop-next l = record {
  from : l.at + 1 ≤ l.next;
  within : l.next ≤ length l.items;
  so_far : IsSegmentSoFar l.fn.setting (drop l.at l.items) (drop l.next l.items) (l.next - l.at);
  bytes : has_fnc1 (take (l.next - l.at) (drop l.at l.items)) ≡ false;
}

abbrev pub decreases-loop-next : goal.decreases-loop-next
decreases-loop-next l = length l.items - l.next
