use Rattle.dm_layout.proofs.Names.{◌≡◌, ◌+◌, ◌≤◌, length, mapped_cell, mapping_columns, IsMoved}
use Rattle.dm_layout.proofs.symbols.widened.move_regions.Given as goal

abbrev pub invariant-loop-row : goal.invariant-loop-row
invariant-loop-row g l = record {
  count : length (g.R.BitRows.numbers l.rows) ≡ g.R.BitRows.most + 6;
  begun : l.first ≤ l.row;
  moved : IsMoved (mapping_columns l.symbol.size) l.row (mapped_cell l.symbol) (g.R.BitRows.numbers l.rows);
}
