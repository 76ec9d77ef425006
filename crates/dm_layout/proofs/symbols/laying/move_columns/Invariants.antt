use Rattle.dm_layout.proofs.Names.{◌≡◌, ℕ, ◌+◌, ◌≤◌, length, look_in}
use Rattle.dm_layout.proofs.symbols.MovedRows.{moved_down}
use Rattle.dm_layout.proofs.symbols.laying.move_columns.Given as goal

abbrev pub invariant-loop-row : goal.invariant-loop-row
invariant-loop-row g l = record {
  count : length (g.R.BitRows.numbers l.rows) ≡ g.R.BitRows.most + 6;
  low : 4 ≤ l.row;
  so_far : (r c : ℕ) → look_in (g.R.BitRows.numbers l.rows) r c ≡
      moved_down (g.R.BitRows.numbers l.fn.rows) l.columns l.shift l.row r c;
}
