use Rattle.std.proofs.Common.{◌∙◌, ◌++◌, [], refl, ap, append-nil, arith}
use Rattle.dm_text.specs.Records.{record_of}
use Rattle.dm_text.proofs.grid_feed.GridFeed.feed_to.Goals as goal

pub invariant_of-self : goal.invariant_of-self
invariant_of-self c =
    let held = c.self.invariant in (held.0 ++ c.args.piece.now, c.in_default.ensures.«open» held.0 held.1)

pub returns-in_default-clause-open : goal.returns-in_default-clause-open
returns-in_default-clause-open c = record {
  whole = refl;
  grown = λ text facts. c.in_default.ensures.«open» text (rw (← c.self.view_is) at facts);
}

pub invariant_of-self-2 : goal.invariant_of-self-2
invariant_of-self-2 c = ([], c.close_to.ensures.empty)

pub returns-clause-closed : goal.returns-clause-closed
returns-clause-closed c = record {
  some = omega arith;
  within = omega (arith, c.in-Some.ensures.within);
  means = λ text facts.
      let ends = c.in-Some.ensures.closes text (rw (← c.self.view_is) at facts) in
      record {
        lines = ends.lines;
        closed = ends.closed;
        meaning_is = c.close_to.ensures.meaning ends.lines [] ends.facts_are ∙ ap record_of (append-nil ends.lines);
      };
  empty = c.close_to.ensures.empty;
}

pub returns-in_default-clause-some_text : goal.returns-in_default-clause-some_text
returns-in_default-clause-some_text c = rw (← c.self.view_is) c.self.invariant

pub returns-clause-some_text : goal.returns-clause-some_text
returns-clause-some_text c = rw (← c.self.view_is) c.self.invariant

pub overflow_add-result : goal.overflow_add-result
overflow_add-result c = omega (arith, c.in-Some.ensures.within)
