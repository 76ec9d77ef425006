use Rattle.std.proofs.Common.{refl, sym, true≢false}
use Rattle.dm_text.specs.Answers.{grid_answer, normal_grid, refusal_in_place_of_grid, too_long}
use Rattle.dm_text.specs.Refusals.{line_refusal, too_long_refusal}
use Rattle.dm_text.proofs.answer.answer_line.Goals as goal

pub returns-in-Ok-write_to : goal.returns-in-Ok-write_to
returns-in-Ok-write_to c =
    rw c.in-Ok.is (
      grid_answer c.write_to.new.grid,
      normal_grid c.write_to.new.grid c.in-Ok-write_to.ensures.written.normal refl,
      c.add_grid.ensures,
    )

pub returns-in-Err-write_to : goal.returns-in-Err-write_to
returns-in-Err-write_to c = rw c.in-Ok.is (
  refusal_in_place_of_grid too_long_refusal,
  too_long (λ fits. true≢false (sym (c.in-Err-write_to.ensures.written.fits.1 fits))) refl,
  c.refuse_too_long.ensures,
)

pub returns-in-Err : goal.returns-in-Err
returns-in-Err c = rw c.in-Err.is (refusal_in_place_of_grid (line_refusal c.in-Err.fault), refl, c.refuse_line.ensures)
