use Rattle.dm_layout.proofs.Names.{◌≡◌, ℕ, ◌+◌, ◌||◌, drop, length, look_in, marks_in, CellsInside}
use Rattle.dm_layout.proofs.symbols.laying.put_cells.Given as goal

abbrev pub invariant-loop-i : goal.invariant-loop-i
invariant-loop-i g l = record {
  count : length (g.R.BitRows.numbers l.rows) ≡ g.R.BitRows.most + 6;
  inside : CellsInside g.R.BitRows.most g.R.BitRows.most (drop l.i l.cells);
  so_far : (r c : ℕ) → (look_in (g.R.BitRows.numbers l.rows) (r + 2) (c + 4)
      || marks_in l.word l.i (drop l.i l.cells) r c) ≡
      (look_in (g.R.BitRows.numbers l.fn.rows) (r + 2) (c + 4) || marks_in l.word 0 l.cells r c);
}
