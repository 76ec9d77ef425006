use Rattle.std.proofs.Common.{[]}
use Rattle.dm_text.proofs.OpenLineSteps.{line_only}
use Rattle.dm_text.proofs.message_line.message_from.Goals as goal

pub returns : goal.returns
returns c =
    line_only c.args.line.now c.close.result (c.close.ensures c.args.line.now (c.take.ensures [] c.new-open.ensures))
