use Rattle.dm_words.proofs.Names.{sym, ◌∙◌, view_of}
use Rattle.dm_words.proofs.SmallestSymbols.{plain_is, not_usual}
use Rattle.dm_words.proofs.smallest.smallest_in.Goals as goal

pub returns-then-is_plain-clause-smallest : goal.returns-then-is_plain-clause-smallest
returns-then-is_plain-clause-smallest g c =
    let a = c.args in
    rw (plain_is (view_of a.head a.items.now a.marks.now) (sym c.is_plain.ensures ∙ c.if-is_plain.true)) at
    c.smallest_items_to.ensures.smallest

pub returns-in-Wide-clause-smallest : goal.returns-in-Wide-clause-smallest
returns-in-Wide-clause-smallest g c =
    rw (sym c.in-Wide.is) at c.smallest_marked_to.ensures.smallest

pub returns-in-Usual-clause-smallest : goal.returns-in-Usual-clause-smallest
returns-in-Usual-clause-smallest g c = record {
  smallest = tt;
  plainest = tt;
  padded = tt;
  too_long = λ err size other taken sized framed says. not_usual other (view_of c.args.head c.args.items.now
      c.args.marks.now) (sym c.is_plain.ensures ∙ c.if-is_plain.false) (rw c.in-Usual.is at says);
}

pub returns-in-Usual-clause-message_items : goal.returns-in-Usual-clause-message_items
returns-in-Usual-clause-message_items g c = λ none nothing.
    (let marked = rw (none, nothing) at (sym c.is_plain.ensures ∙ c.if-is_plain.false) in absurd cc)
