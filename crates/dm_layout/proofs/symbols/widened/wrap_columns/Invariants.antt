use Rattle.dm_layout.proofs.Names.{◌≡◌, ℕ, ◌+◌, ◌&&◌, ◌||◌, nat_le, nat_lt, length, look_in, source}
use Rattle.dm_layout.proofs.symbols.widened.wrap_columns.Given as goal

abbrev pub invariant-loop-row : goal.invariant-loop-row
invariant-loop-row g l = record {
  count : length (g.R.BitRows.numbers l.rows) ≡ g.R.BitRows.most + 6;
  so_far : (r c : ℕ) → look_in (g.R.BitRows.numbers l.rows) r c ≡
      (look_in (g.R.BitRows.numbers l.fn.rows) r c
      || ((nat_le 2 r && nat_lt r (l.row + 2)) && look_in (g.R.BitRows.numbers l.fn.rows) (source l.height l.shift r)
      (l.columns + c)));
}
