use Rattle.std.proofs.Common.{◌≡◌, Ok, Err, ap, refl, subst, ◌∙◌}
use Rattle.dm_text.specs.Answers.{check_text, line_answer, refusal_answer}
use Rattle.dm_text.specs.Refusals.{read_refusal, record_refusal}
use Rattle.dm_text.specs.inner.Gathering.{Gathers}
use Rattle.dm_text.proofs.answer.answer_check.Goals as goal

pub returns-in-Ok-read_to : goal.returns-in-Ok-read_to
returns-in-Ok-read_to c =
    let side : c.side.result ≡ c.args.targets.now.grid.size.side =
    c.side.ensures.value ∙ ap (λ size. size.side) c.size.ensures.value in
    rw c.in-Ok.is (
      line_answer (check_text c.args.targets.now.grid.size.side c.read_to.new.reading),
      (Ok c.read_to.new.reading, rw (← c.border_limit_for-limit.ensures) c.in-Ok-read_to.ensures.read.result_is, refl),
      subst (λ s. Gathers c.args.answers.now (line_answer (check_text s c.read_to.new.reading)) c.add_counts.new.self)
          side c.add_counts.ensures,
    )

pub returns-in-Err-read_to : goal.returns-in-Err-read_to
returns-in-Err-read_to c = rw c.in-Ok.is (
  refusal_answer (read_refusal c.in-Err-read_to.fault),
  (Err c.in-Err-read_to.fault, rw (← c.border_limit_for-limit.ensures) c.in-Err-read_to.ensures.read.result_is, refl),
  c.refuse_reading.ensures,
)

pub returns-in-Err : goal.returns-in-Err
returns-in-Err c = rw c.in-Err.is (refusal_answer (record_refusal c.in-Err.fault), refl, c.refuse_record.ensures)
