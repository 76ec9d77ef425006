use Rattle.dm_text.proofs.grid_feed.GridFeed.finish.Goals as goal

pub returns-clause-last : goal.returns-clause-last
returns-clause-last c = rw c.with_grid.ensures c.in-Some.ensures.last
