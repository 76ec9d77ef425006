use Rattle.ecc200_calls.proofs.Names.{◌≡◌, length, take, marks_of}
use Rattle.ecc200_calls.proofs.mark.put_marks_of.Given as goal

abbrev pub invariant-loop-i : goal.invariant-loop-i
invariant-loop-i l = record {
  prefix : take l.i l.all ≡ marks_of (take l.i l.marks);
  room : length l.all ≡ length l.initial.all;
}
