use Rattle.dm_words.proofs.Names.{◌+◌, ◌-◌, ◌≤◌, length, take}
use Rattle.dm_words.specs.inner.Scan.Results.{HasRoomAt}
use Rattle.dm_words.proofs.GroupLoops.{GroupsGoOn}
use Rattle.dm_words.proofs.edifact.edifact_part.Given as goal

abbrev pub invariant-loop-next : goal.invariant-loop-next
invariant-loop-next l = record {
  from : l.at + 1 ≤ l.next;
  in_range : l.next ≤ length l.words;
  room : HasRoomAt (length l.items) l.words l.next l.held;
  within : l.held ≤ length l.items;
  so_far : GroupsGoOn l.words (l.at + 1) (take l.fn.held l.fn.items) (take l.held l.items) l.next;
}

abbrev pub decreases-loop-next : goal.decreases-loop-next
decreases-loop-next l = length l.words - l.next
