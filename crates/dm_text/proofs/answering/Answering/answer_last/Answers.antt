use Rattle.std.proofs.Common.{sym, true≢false, ◌∙◌}
use Rattle.dm_symbol.specs.Outcomes.{outcome}
use Rattle.dm_text.specs.inner.OpenLines.{meaning_by_value}
use Rattle.dm_text.proofs.AnsweredSoFar.{last_line_ends, last_record_ends, lines_end, records_end}
use Rattle.dm_text.proofs.answering.Answering.answer_last.Goals as goal

pub returns-in_default-clause-none : goal.returns-in_default-clause-none
returns-in_default-clause-none c =
    rw c.in-Records.is (records_end c.in-Records.task c.in-Records.feed c.in_default.ensures.none)

pub returns-in-Some-clause-last : goal.returns-in-Some-clause-last
returns-in-Some-clause-last c =
    let one = c.answer_record.ensures in
    rw c.in-Records.is (
      one.0,
      one.2,
      last_record_ends c.in-Records.task c.in-Records.feed
          (outcome c.in-Some.found c.finish_to.new.grid) one.0 c.in-Some.ensures.last one.1,
    )

pub returns-then-is_empty-clause-none : goal.returns-then-is_empty-clause-none
returns-then-is_empty-clause-none c =
    rw c.in-Lines.is (lines_end c.in-Lines.profile c.in-Lines.feed
    (λ line known. (c.is_empty.ensures line known).0 c.if-is_empty.true))

pub returns-else-is_empty-clause-last : goal.returns-else-is_empty-clause-last
returns-else-is_empty-clause-last c =
    let one = c.answer_line.ensures in
    rw c.in-Lines.is (
      one.0,
      one.2,
      last_line_ends c.in-Lines.profile c.in-Lines.feed (meaning_by_value c.meaning.result) one.0
          (λ line known. (
            (λ none. true≢false (sym ((c.is_empty.ensures line known).1 none) ∙ c.if-is_empty.false)),
            c.meaning.ensures line known,
          )) one.1,
    )
