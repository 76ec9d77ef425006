use Rattle.std.proofs.Common.{◌≡◌, ◌≤◌, ◌*◌, length, take}
use Rattle.dm_symbol.specs.Sizes.{size_table}
use Rattle.dm_text.proofs.TableLines.{lines_of}
use Rattle.dm_text.proofs.table.table_text.Given as goal

abbrev pub invariant-loop-size : goal.invariant-loop-size
invariant-loop-size l = record {
  text : l.text.items ≡ lines_of (take l.size-index size_table);
  room : length l.text.items ≤ 49 * l.size-index;
}
