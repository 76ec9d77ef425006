use Rattle.std.proofs.Common.{[], sym, true≢false, ◌∙◌}
use Rattle.dm_text.proofs.grid_feed.GridFeed.finish_to.Goals as goal

pub returns-then-is_empty-clause-some_text : goal.returns-then-is_empty-clause-some_text
returns-then-is_empty-clause-some_text c = rw (← c.self.view_is) c.self.invariant

pub invariant_of-self : goal.invariant_of-self
invariant_of-self c = ([], c.close_to.ensures.empty)

pub returns-clause-last : goal.returns-clause-last
returns-clause-last c text facts =
    let known = rw (← c.self.view_is) at facts in
    record {
      lines = known.lines;
      rest = known.rest;
      open_record = known.open_record;
      some =
          λ none. true≢false (sym ((c.is_empty.ensures known.lines known.rest known.facts_are).1 none)
          ∙ c.if-is_empty.false);
      meaning_is = c.close_to.ensures.meaning known.lines known.rest known.facts_are;
    }

pub returns-clause-some_text : goal.returns-clause-some_text
returns-clause-some_text c = rw (← c.self.view_is) c.self.invariant
