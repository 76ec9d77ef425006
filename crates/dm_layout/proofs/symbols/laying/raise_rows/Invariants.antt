use Rattle.dm_layout.proofs.Names.{◌≡◌, ℕ, ◌+◌, length, look_in}
use Rattle.dm_layout.proofs.symbols.WidenedRows.{laid_over}
use Rattle.dm_layout.proofs.symbols.laying.raise_rows.Given as goal

abbrev pub invariant-loop-row : goal.invariant-loop-row
invariant-loop-row g l = record {
  count : length (g.R.BitRows.numbers l.rows) ≡ g.R.BitRows.most + 6;
  so_far : (r c : ℕ) → look_in (g.R.BitRows.numbers l.rows) r c ≡
      laid_over (g.R.BitRows.numbers l.fn.rows) (λ r. look_in (g.R.BitRows.numbers l.fn.rows) (r + l.height))
      (l.row + 2) r c;
}
