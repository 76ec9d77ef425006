use Rattle.ecc200_calls.proofs.Names.{◌∙◌, IsWriteResult}
use Rattle.ecc200_calls.proofs.writing.write_by.Goals.{in-Ok, in-Err}
use Rattle.ecc200_calls.proofs.writing.write_by.Goals as goal

pub returns-clause-out : goal.returns-clause-out
returns-clause-out g c = elim c.match-check_how.branch [
  | in-Ok w ↦ let h = w.in-Ok.wanted in
      IsWriteResult.asked h.form h.size h.head w.in-Ok.ensures.wanted (rw w.out-is w.write_wanted.ensures)
  | in-Err w ↦ IsWriteResult.not_asked w.in-Err.why w.in-Err.ensures.fault (w.out-is ∙ w.show_fault.ensures)
]
