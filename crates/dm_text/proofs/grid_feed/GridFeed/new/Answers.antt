use Rattle.std.proofs.Common.{[]}
use Rattle.dm_text.proofs.grid_feed.GridFeed.new.Goals as goal

pub invariant_of-result : goal.invariant_of-result
invariant_of-result c = ([], c.new.ensures)
