use Rattle.std.proofs.Common.{arith}
use Rattle.dm_layout.proofs.symbols.Pairs.{pair_or}
use Rattle.dm_layout.proofs.symbols.pair.Pair.or.Goals as goal

pub returns : goal.returns
returns c = pair_or c.args.self.now.low c.args.self.now.high c.args.other.now.low c.args.other.now.high (omega arith)
    (omega arith)
    (omega arith) (omega arith)
