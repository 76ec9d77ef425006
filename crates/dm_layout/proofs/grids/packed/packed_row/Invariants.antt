use Rattle.dm_layout.proofs.PackedRows.{IsPacked}
use Rattle.dm_layout.proofs.grids.packed.packed_row.Given as goal

abbrev pub invariant-loop-column : goal.invariant-loop-column
invariant-loop-column l = IsPacked l.cells l.column l.row
