use Rattle.std.proofs.Common.{[]}
use Rattle.dm_text.proofs.line_feed.LineFeed.new.Goals as goal

pub invariant_of-result : goal.invariant_of-result
invariant_of-result c = ([], c.new.ensures)
