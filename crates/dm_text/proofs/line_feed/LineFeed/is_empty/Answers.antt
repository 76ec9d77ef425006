use Rattle.dm_text.proofs.line_feed.LineFeed.is_empty.Goals as goal

pub returns : goal.returns
returns c line facts = c.is_empty.ensures line (rw (← c.self.view_is) at facts)
