use Rattle.std.proofs.Common.{◌≢◌, ◌<◌, ◌∙◌, arith}
use Rattle.dm_layout.proofs.symbols.SlotRows.{join_more}
use Rattle.dm_layout.proofs.symbols.slots.join_anchors.Goals as goal

pub loop-row-preserved : goal.loop-row-preserved
loop-row-preserved g c =
    let rows = g.R.BitRows.numbers c.args.rows.now in
    let i = c.loop-row.invariant in
    let below : c.loop-row.row < g.R.BitRows.most = omega (arith, c.requires.high, c.loop-row-test.true) in
    let ne : g.R.BitRows.most ≢ c.loop-row.row = omega (arith, below) in
    record {
      count = c.join.ensures.room ∙ i.count;
      corner = c.join.ensures.others g.R.BitRows.most ne ∙ i.corner;
      so_far =
          join_more g.R.BitRows.most g.R.BitRows.width rows (g.R.BitRows.joined c.loop-row.slots)
          (g.R.BitRows.joined c.join.new.slots) c.loop-row.row g.met.R.BitRows.fits.1 c.join.ensures.others
          (rw c.first_column.ensures at (c.join.ensures.cells (omega (arith, i.count, below))))
          i.so_far;
    }
