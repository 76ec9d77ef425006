use Rattle.std.proofs.Common.{length}
use Rattle.dm_symbol.specs.Outcomes.{outcome}
use Rattle.dm_text.specs.inner.OpenLines.{meaning_by_value}
use Rattle.dm_text.proofs.LineTexts.{line_ends}
use Rattle.dm_text.proofs.AnsweredSoFar.{line_closed, line_open, on_none, record_closed, record_open}
use Rattle.dm_text.proofs.answering.Answering.feed.Goals as goal

pub returns-in_err-taken-in-Records-clause-open : goal.returns-in_err-taken-in-Records-clause-open
returns-in_err-taken-in-Records-clause-open c =
    on_none c.from_residual.result _
    (rw c.in-Records.is (record_open c.in-Records.task c.in-Records.feed c.feed_to.new.self c.args.piece.now
    (length c.args.piece.now) c.in_err-taken-in-Records.ensures.«open»))

pub returns-in_ok-taken-in-Records-clause-closed : goal.returns-in_ok-taken-in-Records-clause-closed
returns-in_ok-taken-in-Records-clause-closed c =
    let one = c.answer_record.ensures in
    rw c.in-Records.is (
      one.0,
      one.2,
      record_closed c.in-Records.task c.in-Records.feed c.feed_to.new.self c.args.piece.now
          c.in_ok-taken-in-Records.taken
          (outcome c.in_ok-taken-in-Records.found c.feed_to.new.grid) one.0 c.in_ok-taken-in-Records.ensures.closed
          one.1,
    )

pub returns-in_err-taken-in-Lines-clause-open : goal.returns-in_err-taken-in-Lines-clause-open
returns-in_err-taken-in-Lines-clause-open c =
    on_none c.from_residual-in_err-taken-in-Lines.result _
    (rw c.in-Lines.is (line_open c.in-Lines.profile c.in-Lines.feed c.take_line.new.self c.args.piece.now
    (length c.args.piece.now) c.in_err-taken-in-Lines.ensures.«open»))

pub returns-in_ok-taken-in-Lines-clause-closed : goal.returns-in_ok-taken-in-Lines-clause-closed
returns-in_ok-taken-in-Lines-clause-closed c =
    let one = c.answer_line.ensures in
    let message = meaning_by_value c.meaning.result in
    let closes =
    line_ends c.in-Lines.feed c.take_line.new.self c.begin_line.new.self c.args.piece.now
    c.in_ok-taken-in-Lines.taken message
    c.in_ok-taken-in-Lines.ensures.ends c.meaning.ensures c.begin_line.ensures in
    rw c.in-Lines.is (
      one.0,
      one.2,
      line_closed c.in-Lines.profile c.in-Lines.feed c.begin_line.new.self
          c.args.piece.now c.in_ok-taken-in-Lines.taken message one.0 closes one.1,
    )
