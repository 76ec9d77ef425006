use Rattle.dm_layout.proofs.symbols.InnerRows.{cut_first, cut_more}
use Rattle.dm_layout.proofs.symbols.widened.inner_row.Goals as goal

pub loop-region-init : goal.loop-region-init
loop-region-init c =
    let t = cut_first c.args.row c.args.region_columns c.args.across c.requires.least c.requires.some c.requires.fits in
    record { narrow = t.narrow; so_far = t.so_far }

pub loop-region-preserved : goal.loop-region-preserved
loop-region-preserved c =
    let t =
    cut_more c.loop-region.inner c.args.row c.args.region_columns c.loop-region.region c.args.across c.requires.least
    c.loop-region-test.true c.requires.fits c.loop-region.invariant.narrow c.loop-region.invariant.so_far in
    record { narrow = t.narrow; so_far = t.so_far }
