use Rattle.dm_layout.proofs.symbols.LongRows.{across}
use Rattle.dm_layout.proofs.symbols.widened.part_across.Goals as goal

pub returns : goal.returns
returns c =
    rw c.from.ensures (across c.args.row c.args.end c.args.start c.args.width c.ranges.row.fits c.ranges.end.fits
    c.requires.some
    c.requires.before c.requires.width)
