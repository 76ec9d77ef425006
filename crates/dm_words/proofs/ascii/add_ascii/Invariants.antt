use Rattle.dm_words.proofs.Names.{◌≡◌, ◌+◌, ◌-◌, ◌++◌, ◌≤◌, length, take, drop, ◌||◌, ascii, has_fnc1}
use Rattle.dm_words.proofs.ascii.add_ascii.Given as goal

-- The codewords of the items before the index are written.
abbrev pub invariant-loop-at : goal.invariant-loop-at
invariant-loop-at l = record {
  in_range : l.at ≤ length l.items;
  counted : l.held + length (ascii (drop l.at l.items)) ≡ l.fn.held + length (ascii l.items);
  so_far : take l.fn.held l.fn.words ++ ascii l.items ≡ take l.held l.words ++ ascii (drop l.at l.items);
  has_fnc1 : l.has_fnc1 || has_fnc1 (drop l.at l.items) ≡ has_fnc1 l.items;
}

abbrev pub decreases-loop-at : goal.decreases-loop-at
decreases-loop-at l = length l.items - l.at
