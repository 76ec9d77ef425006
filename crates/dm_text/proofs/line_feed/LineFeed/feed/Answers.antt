use Rattle.dm_text.proofs.LineTexts.{line_ends}
use Rattle.dm_text.proofs.line_feed.LineFeed.feed.Goals as goal

pub returns-in_default : goal.returns-in_default
returns-in_default c = record {
  «open» = c.in_default.ensures.«open»;
  closed = tt;
  some_line = c.take_line.ensures.some_line;
}

pub returns-clause-closed : goal.returns-clause-closed
returns-clause-closed c =
    line_ends c.args.self.now c.take_line.new.self c.close.new.self c.args.piece.now c.in-Some.taken c.close.result
    c.in-Some.ensures.ends c.close.ensures.line c.close.ensures.empty
