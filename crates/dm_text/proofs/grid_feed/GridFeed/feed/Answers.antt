use Rattle.dm_text.proofs.grid_feed.GridFeed.feed.Goals as goal

pub returns-in_default : goal.returns-in_default
returns-in_default c = record {
  «open» = c.in_default.ensures.«open»;
  closed = tt;
  some_text = c.feed_to.ensures.some_text;
}

pub returns-clause-closed : goal.returns-clause-closed
returns-clause-closed c = rw c.with_grid.ensures c.in-Some.ensures.closed
