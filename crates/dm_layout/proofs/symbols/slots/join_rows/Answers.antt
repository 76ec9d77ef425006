use Rattle.std.proofs.Common.{arith}
use Rattle.dm_layout.proofs.symbols.SlotRows.{corner_beside}
use Rattle.dm_layout.proofs.symbols.slots.join_rows.Goals as goal

pub returns : goal.returns
returns g c =
    let fits = g.met.R.BitRows.fits in
    let corner = c.corner_word-corner.ensures in
    corner_beside g.R.BitRows.bytes g.R.BitRows.most c.args.height c.args.columns (g.R.BitRows.numbers c.args.rows.now)
    (g.R.BitRows.joined c.join_anchors.new.slots) (g.R.BitRows.joined c.add.new.slots) c.reverse.result
    c.corner_word-corner.result (omega (arith, fits.1, g.met.R.BitRows.whole)) c.requires.high c.requires.wide
    (omega (arith, c.join_anchors.ensures.room)) c.join_anchors.ensures.corner
    (rw (c.add.ensures, c.corner.ensures))
    c.reverse.type_inv c.reverse.ensures c.corner_word-corner.type_inv c.join_anchors.ensures.joined
    corner.first corner.second corner.third corner.fourth
