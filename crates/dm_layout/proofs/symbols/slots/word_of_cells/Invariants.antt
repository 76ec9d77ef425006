use Rattle.dm_layout.proofs.Names.{◌≡◌, ◌^◌, ◌<◌, drop, bits_in, CellsInside}
use Rattle.dm_layout.proofs.symbols.slots.word_of_cells.Given as goal

abbrev pub invariant-loop-cell : goal.invariant-loop-cell
invariant-loop-cell g l = record {
  inside : CellsInside g.R.BitRows.most g.R.BitRows.most (drop l.cell-index l.cells);
  room : l.word < 2 ^ l.cell-index;
  so_far : bits_in (g.R.BitRows.numbers l.rows) l.word (drop l.cell-index l.cells) ≡
      bits_in (g.R.BitRows.numbers l.rows) 0 l.cells;
}
