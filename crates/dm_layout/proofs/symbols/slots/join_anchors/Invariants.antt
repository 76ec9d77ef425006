use Rattle.dm_layout.proofs.Names.{◌≡◌, ℕ, ◌+◌, ◌<◌, length, get_or, IsJoined}
use Rattle.dm_layout.proofs.symbols.slots.join_anchors.Given as goal

abbrev pub invariant-loop-row : goal.invariant-loop-row
invariant-loop-row g l = record {
  count : length (g.R.BitRows.joined l.slots) ≡ g.R.BitRows.most + 1;
  corner : get_or (g.R.BitRows.joined l.slots) g.R.BitRows.most 0 ≡ 0;
  so_far : (r : ℕ) → r < l.row → IsJoined g.R.BitRows.most (g.R.BitRows.numbers l.rows) r
      (get_or (g.R.BitRows.joined l.slots) r 0);
}
