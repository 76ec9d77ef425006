use Rattle.std.proofs.Common.{◌≡◌, ◌≤◌, ◌+◌, ◌*◌, ◌++◌, length, take}
use Rattle.dm_text.specs.Spellings.{text_of}
use Rattle.dm_text.proofs.message_line.push_items.Given as goal

abbrev pub invariant-loop-item : goal.invariant-loop-item
invariant-loop-item g l = record {
  text : l.text.items ≡ l.initial.text.items ++ text_of (take l.item-index l.items);
  room : length l.text.items ≤ length l.initial.text.items + 4 * l.item-index;
}
