use Rattle.dm_layout.proofs.Names.{◌≡◌, ◌+◌, ◌*◌, length, kept_symbol, look_in, IsDrawn}
use Rattle.dm_layout.proofs.symbols.drawing.draw_regions.Given as goal

abbrev pub invariant-loop-inner : goal.invariant-loop-inner
invariant-loop-inner g l = record {
  lines : length l.lines ≡ length l.fn.lines;
  ends : length l.ends ≡ length l.fn.ends;
  drawn : IsDrawn l.fn.size (λ r c. look_in (g.R.BitRows.numbers l.rows) (r + 2) (c + 4))
      (l.region * (l.fn.size.region_rows + 2) + l.inner) (kept_symbol l.fn.size l.lines l.ends);
}
