use Rattle.std.proofs.Common.{◌≡◌, ◌≤◌, ◌++◌, length, map, take}
use Rattle.std.specs.List.{AllByRecursion}
use Rattle.dm_symbol.specs.Messages.{most_items}
use Rattle.dm_symbol.specs.declared.Item.TheVariants.{Byte}
use Rattle.dm_text.specs.inner.OpenLines.{IsPlain}
use Rattle.dm_text.proofs.open_line.push_plain.Given as goal

abbrev pub invariant-loop-i : goal.invariant-loop-i
invariant-loop-i l = record {
  plain : AllByRecursion IsPlain (take l.i l.bytes);
  items : l.message ≡ l.initial.message ++ map Byte (take l.i l.bytes);
  few : length l.initial.message ≤ most_items → length l.message ≤ most_items;
}
