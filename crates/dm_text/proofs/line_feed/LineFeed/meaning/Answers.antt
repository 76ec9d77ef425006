use Rattle.dm_text.proofs.line_feed.LineFeed.meaning.Goals as goal

pub returns : goal.returns
returns c line facts = c.meaning.ensures line (rw (← c.self.view_is) at facts)
