use Rattle.std.proofs.Common.{Ok, Err, refl}
use Rattle.dm_text.specs.Answers.{line_answer, refusal_answer}
use Rattle.dm_text.specs.Refusals.{read_refusal, record_refusal}
use Rattle.dm_text.specs.Spellings.{text_of}
use Rattle.dm_text.proofs.answer.answer_read.Goals as goal

pub returns-in-Ok-read_to : goal.returns-in-Ok-read_to
returns-in-Ok-read_to c = rw c.in-Ok.is (
  line_answer (text_of c.read_to.new.reading.message),
  (Ok c.read_to.new.reading, rw (← c.border_limit_for-limit.ensures) c.in-Ok-read_to.ensures.read.result_is, refl),
  c.add_message.ensures,
)

pub returns-in-Err-read_to : goal.returns-in-Err-read_to
returns-in-Err-read_to c = rw c.in-Ok.is (
  refusal_answer (read_refusal c.in-Err-read_to.fault),
  (Err c.in-Err-read_to.fault, rw (← c.border_limit_for-limit.ensures) c.in-Err-read_to.ensures.read.result_is, refl),
  c.refuse_reading.ensures,
)

pub returns-in-Err : goal.returns-in-Err
returns-in-Err c = rw c.in-Err.is (refusal_answer (record_refusal c.in-Err.fault), refl, c.refuse_record.ensures)
