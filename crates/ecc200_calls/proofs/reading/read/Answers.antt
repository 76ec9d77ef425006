use Rattle.ecc200_calls.proofs.Names.{◌∙◌, IsReadResult}
use Rattle.ecc200_calls.proofs.reading.read.Goals.{in-Ok, in-Err}
use Rattle.ecc200_calls.proofs.reading.read.Goals as goal

pub returns-clause-out : goal.returns-clause-out
returns-clause-out c = elim c.match-check_scan.branch [
  | in-Ok w ↦ IsReadResult.sought w.in-Ok.sought (cc) (rw w.out-is w.read_sought.ensures)
  | in-Err w ↦ IsReadResult.not_sought w.in-Err.why (cc) (w.out-is ∙ w.show_fault.ensures)
]
