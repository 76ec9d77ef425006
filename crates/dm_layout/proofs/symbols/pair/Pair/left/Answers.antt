use Rattle.std.proofs.Common.{arith}
use Rattle.dm_layout.proofs.symbols.Pairs.{moved_left, moved_far_left}
use Rattle.dm_layout.proofs.symbols.pair.Pair.left.Goals as goal

pub returns-then-count-lt128 : goal.returns-then-count-lt128
returns-then-count-lt128 c =
    moved_left c.args.self.now.low c.args.self.now.high c.args.count (omega arith) (omega arith) c.if-count-lt128.true

pub returns-else-count-lt128 : goal.returns-else-count-lt128
returns-else-count-lt128 c =
    moved_far_left c.args.self.now.low c.args.self.now.high c.args.count (omega arith) (omega arith)
    c.if-count-lt128.false c.requires
