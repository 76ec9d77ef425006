use Rattle.std.proofs.Common.{◌++◌, ◌+◌, refl, take, drop}
use Rattle.dm_text.proofs.Texts.{length-prefix}
use Rattle.dm_text.proofs.line_feed.LineFeed.take_line.Goals as goal

pub invariant_of-self : goal.invariant_of-self
invariant_of-self c =
    (c.self.invariant.0 ++ c.args.piece.now, c.in_default.ensures.«open» c.self.invariant.0 c.self.invariant.1)

pub returns-in_default-clause-open : goal.returns-in_default-clause-open
returns-in_default-clause-open c = record {
  whole = refl;
  no_lf = c.in_default.ensures.none;
  grown = λ line facts. c.in_default.ensures.«open» line (rw (← c.self.view_is) at facts);
}

pub invariant_of-self-2 : goal.invariant_of-self-2
invariant_of-self-2 c = (
  c.self.invariant.0 ++ take c.in-Some.end c.args.piece.now,
  c.in-Some.ensures.before c.self.invariant.0 c.self.invariant.1,
)

pub returns-clause-ends : goal.returns-clause-ends
returns-clause-ends c = record {
  before = take c.in-Some.end c.args.piece.now;
  after = drop (c.in-Some.end + 1) c.args.piece.now;
  piece_is = c.in-Some.ensures.first.whole;
  no_lf = c.in-Some.ensures.first.no_lf;
  taken_is = length-prefix c.in-Some.end c.args.piece.now c.in-Some.ensures.within;
  grown = λ line facts. c.in-Some.ensures.before line (rw (← c.self.view_is) at facts);
}
