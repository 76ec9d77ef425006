use Rattle.dm_words.proofs.Names.{◌+◌, ◌-◌, ◌≤◌, length, drop, take, IsTrue, Usual, parts_cost, PassesSign}
use Rattle.dm_words.proofs.Names.{ArePartsWritten}
use Rattle.dm_words.proofs.smallest.parts.write_parts.Given as goal

abbrev pub invariant-loop-at : goal.invariant-loop-at
invariant-loop-at l = record {
  within : l.at ≤ length l.items;
  budget : l.held + parts_cost l.setting (drop l.at l.items) ≤ length l.words;
  parts : ArePartsWritten l.setting.extent (length l.fn.words) (take l.fn.held l.fn.words) (take l.held l.words)
      (take l.at l.items);
  usual : IsTrue l.are_usual → ArePartsWritten Usual (length l.fn.words) (take l.fn.held l.fn.words)
      (take l.held l.words) (take l.at l.items);
  sign : PassesSign (take l.fn.held l.fn.words) (take l.held l.words) l.items (drop l.at l.items);
}

abbrev pub decreases-loop-at : goal.decreases-loop-at
decreases-loop-at l = length l.items - l.at
