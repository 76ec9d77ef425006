use Rattle.dm_layout.proofs.Names.{◌≡◌, ℕ, ◌+◌, ◌<◌, length, scattered, look_in}
use Rattle.dm_layout.proofs.symbols.laying.scatter.Given as goal

abbrev pub invariant-loop-row : goal.invariant-loop-row
invariant-loop-row g l = record {
  count : length (g.R.BitRows.numbers l.rows) ≡ g.R.BitRows.most + 6;
  so_far : (r c : ℕ) → c < g.R.BitRows.width → look_in (g.R.BitRows.numbers l.rows) r c ≡ scattered l.row
      (g.R.BitRows.joined l.slots) r c;
}
