use Rattle.std.proofs.Common.{◌<◌, length}
use Rattle.dm_text.specs.inner.OpenLines.{pending_bytes}
use Rattle.dm_text.proofs.OpenLineSteps.{pending_end}
use Rattle.dm_text.proofs.open_line.GoodLine.meaning.Goals as goal

pub returns-then-count-gt0 : goal.returns-then-count-gt0
returns-then-count-gt0 c line good =
    let some : 0 < length (pending_bytes c.args.self.now.pending) = rw (← c.count.ensures) c.if-count-gt0.true in
    rw c.saturating_add.ensures (pending_end line (pending_bytes c.args.self.now.pending) c.args.self.now.prefix_length
    c.args.self.now.items good some)
