use Rattle.ecc200_calls.proofs.Names.{◌≤◌}
use Rattle.ecc200_calls.proofs.ContentNumbers.{AreInOrder}
use Rattle.ecc200_calls.proofs.mark.first_wrong.Given as goal

abbrev pub invariant-loop-i : goal.invariant-loop-i
invariant-loop-i l = record {
  within : l.least ≤ l.count;
  so_far : AreInOrder l.marks l.i l.least;
}
