use Rattle.dm_words.proofs.Names.{◌≡◌, ◌+◌, ◌<◌, ◌≤◌, ℕ, length, drop, get_or, StepBits, ascii, IsItem, Item}
use Rattle.dm_words.proofs.Names.{digit_first, row, step_in, IsRightStep, IsWithin, HasRow}
use Rattle.dm_words.proofs.smallest.plan.plan_to.Given as goal

abbrev pub invariant-loop-at : goal.invariant-loop-at
invariant-loop-at l = record {
  in_range : l.at ≤ length l.items;
  room : length l.items < length l.plan;
  digit : l.digit_behind ≡ digit_first (drop l.at l.items);
  within : IsWithin 3200 (row l.setting (drop l.at l.items));
  row : HasRow (row l.setting (drop l.at l.items)) l.costs;
  kept : (l.costs.ascii ≤ 16384) × (l.costs.after ≤ 16384) × (l.costs.near ≤ 16384);
  in_ascii : l.ascii ≡ length (ascii (drop l.at l.items));
  in_ascii_behind : l.ascii_behind ≡ length (ascii (drop (l.at + 1) l.items));
  plan : (i : ℕ) (other : StepBits) → l.at ≤ i → i ≤ length l.items
      → IsRightStep l.setting (drop i l.items) (step_in (get_or l.plan i other));
  message : (i : ℕ) (other : Item) → l.at ≤ i → i < length l.items → IsItem (get_or l.items i other);
}
