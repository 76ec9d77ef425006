use Rattle.std.proofs.Common.{arith}
use Rattle.dm_layout.proofs.symbols.Pairs.{pair_and}
use Rattle.dm_layout.proofs.symbols.pair.Pair.masked.Goals as goal

pub returns : goal.returns
returns c = pair_and c.args.self.now.low c.args.self.now.high c.args.mask (omega arith) (omega arith) c.ranges.mask.fits
