use Rattle.std.proofs.Common.{[]}
use Rattle.dm_text.proofs.line_feed.LineFeed.close.Goals as goal

pub invariant_of-self : goal.invariant_of-self
invariant_of-self c = ([], rw c.replace.ensures.after c.new.ensures)

pub returns-clause-line : goal.returns-clause-line
returns-clause-line c line facts = c.close.ensures line (rw (c.replace.ensures.value, c.self.view_is) facts)

pub returns-clause-empty : goal.returns-clause-empty
returns-clause-empty c = rw c.replace.ensures.after c.new.ensures
