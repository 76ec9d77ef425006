use Rattle.std.proofs.Common.{◌*◌, ◌%◌, ◌^◌}
use Rattle.dm_layout.proofs.symbols.OuterRows.{IsOpened}
use Rattle.dm_layout.proofs.symbols.drawing.outer_row.Given as goal

abbrev pub invariant-loop-region : goal.invariant-loop-region
invariant-loop-region l = record {
  opened : IsOpened (l.inner % (1 * 2 ^ (l.across * l.region_columns) % 2 ^ 128)) l.region_columns l.region l.outer;
}
