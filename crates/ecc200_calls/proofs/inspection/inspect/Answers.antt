use Rattle.ecc200_calls.proofs.Names.{◌∙◌, IsInspectResult}
use Rattle.ecc200_calls.proofs.OfGiven.{shown_of_given}
use Rattle.ecc200_calls.proofs.inspection.inspect.Goals.{
  in-Ok+in-Small,
  in-Ok+in-Fair,
  in-Ok+in-Middle,
  in-Ok+in-Largest,
  in-Err,
}
use Rattle.ecc200_calls.proofs.inspection.inspect.Goals as goal

pub returns-clause-out : goal.returns-clause-out
returns-clause-out c = elim c.match-check_given.branch [
  | in-Ok+in-Small w ↦ rw w.out-is
      (shown_of_given _ _ _ _ _ _ w.in-Ok.ensures.known _ _ w.inspect_given.ensures)
  | in-Ok+in-Fair w ↦ rw w.out-is
      (shown_of_given _ _ _ _ _ _ w.in-Ok.ensures.known _ _ w.inspect_given-in-Fair.ensures)
  | in-Ok+in-Middle w ↦ rw w.out-is
      (shown_of_given _ _ _ _ _ _ w.in-Ok.ensures.known _ _ w.inspect_given-in-Middle.ensures)
  | in-Ok+in-Largest w ↦ rw w.out-is
      (shown_of_given _ _ _ _ _ _ w.in-Ok.ensures.known _ _ w.inspect_given-in-Largest.ensures)
  | in-Err w ↦ IsInspectResult.not_given w.in-Err.why w.in-Err.ensures.fault (w.out-is ∙ w.show_fault.ensures)
]
