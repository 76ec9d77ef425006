use Rattle.std.proofs.Common.{Ok, Err, refl}
use Rattle.dm_text.specs.Answers.{grid_answer, refusal_in_place_of_grid}
use Rattle.dm_text.specs.Refusals.{normal_refusal, record_refusal}
use Rattle.dm_text.proofs.answer.answer_normal.Goals as goal

pub returns-in-Ok-normal_to : goal.returns-in-Ok-normal_to
returns-in-Ok-normal_to c = rw c.in-Ok.is (
  grid_answer c.normal_to.new.normal,
  (Ok c.normal_to.new.normal, rw (← c.border_limit_for-limit.ensures) c.in-Ok-normal_to.ensures.normal.result_is, refl),
  c.add_grid.ensures,
)

pub returns-in-Err-normal_to : goal.returns-in-Err-normal_to
returns-in-Err-normal_to c = rw c.in-Ok.is (
  refusal_in_place_of_grid (normal_refusal c.in-Err-normal_to.fault),
  (
    Err c.in-Err-normal_to.fault,
    rw (← c.border_limit_for-limit.ensures) c.in-Err-normal_to.ensures.normal.result_is,
    refl,
  ),
  c.refuse_normal.ensures,
)

pub returns-in-Err : goal.returns-in-Err
returns-in-Err c =
    rw c.in-Err.is (
      refusal_in_place_of_grid (record_refusal c.in-Err.fault),
      refl,
      c.refuse_record_in_place_of_grid.ensures,
    )
