use Rattle.dm_layout.proofs.Names.{◌≡◌, ◌+◌, ◌*◌, length, mapped_cell, mapping_columns, IsMoved}
use Rattle.dm_layout.proofs.symbols.widened.move_rows.Given as goal

abbrev pub invariant-loop-region : goal.invariant-loop-region
invariant-loop-region g l = record {
  count : length (g.R.BitRows.numbers l.rows) ≡ g.R.BitRows.most + 6;
  moved : IsMoved (mapping_columns l.symbol.size) (l.region * l.symbol.size.region_rows) (mapped_cell l.symbol)
      (g.R.BitRows.numbers l.rows);
}
