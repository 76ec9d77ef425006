use Rattle.ecc200_calls.proofs.Names.{◌∙◌, IsNormalResult}
use Rattle.ecc200_calls.proofs.normalising.normal.Goals.{in-Ok, in-Err}
use Rattle.ecc200_calls.proofs.normalising.normal.Goals as goal

pub returns-clause-out : goal.returns-clause-out
returns-clause-out c = elim c.match-check_scan.branch [
  | in-Ok w ↦ IsNormalResult.sought w.in-Ok.sought (cc) (rw w.out-is w.normal_sought.ensures)
  | in-Err w ↦ IsNormalResult.not_sought w.in-Err.why (cc) (w.out-is ∙ w.show_fault.ensures)
]
