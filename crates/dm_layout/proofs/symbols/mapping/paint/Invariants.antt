use Rattle.std.proofs.Common.{◌≡◌, ◌+◌, length}
use Rattle.dm_layout.proofs.symbols.LaidWords.{AreLaid}
use Rattle.dm_layout.proofs.symbols.mapping.paint.Given as goal

abbrev pub invariant-loop-i : goal.invariant-loop-i
invariant-loop-i g l = record {
  count : length (g.R.BitRows.joined l.slots) ≡ g.R.BitRows.most + 1;
  so_far : AreLaid g.R.BitRows.most l.height l.columns l.words (g.R.BitRows.joined l.slots) l.i;
}

abbrev pub invariant-loop-j : goal.invariant-loop-j
invariant-loop-j g l = record {
  count : length (g.R.BitRows.joined l.slots) ≡ g.R.BitRows.most + 1;
  so_far : AreLaid g.R.BitRows.most l.height l.columns l.words (g.R.BitRows.joined l.slots) (l.count + l.j);
}
