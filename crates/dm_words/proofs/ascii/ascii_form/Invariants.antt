use Rattle.dm_words.proofs.Names.{◌≡◌, ◌-◌, ◌+◌, ◌*◌, ◌≤◌, length, drop, ◌||◌, ascii, has_fnc1}
use Rattle.dm_words.proofs.ascii.ascii_form.Given as goal

-- The units before the index are counted.
abbrev pub invariant-loop-at : goal.invariant-loop-at
invariant-loop-at l = record {
  in_range : l.at ≤ length l.items;
  room : l.form.length ≤ 2 * l.at;
  so_far : l.form.length + length (ascii (drop l.at l.items)) ≡ length (ascii l.items);
  has_fnc1 : l.form.has_fnc1 || has_fnc1 (drop l.at l.items) ≡ has_fnc1 l.items;
}

abbrev pub decreases-loop-at : goal.decreases-loop-at
decreases-loop-at l = length l.items - l.at
