use Rattle.dm_layout.proofs.symbols.Pairs.{at_is, put_is}
use Rattle.dm_layout.proofs.symbols.pair_rows.PairRowsBitRows.wrap_above.Goals as goal

pub returns : goal.returns
returns c =
    put_is c.args.self.now c.args.row c.right.result _
    (rw (c.right.ensures, c.left.ensures, at_is c.args.self.now c.args.from _ c.requires.from))
