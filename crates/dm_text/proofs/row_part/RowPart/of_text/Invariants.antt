use Rattle.std.proofs.Common.{◌*◌, ◌≤◌}
use Rattle.dm_text.specs.inner.OpenRecords.{AreFirstCells}
use Rattle.dm_text.proofs.row_part.RowPart.of_text.Given as goal

abbrev pub invariant-loop-block : goal.invariant-loop-block
invariant-loop-block l = record {
  cells : AreFirstCells l.text l.cells;
  few : l.cells.count ≤ l.block * 32;
}
