use Rattle.ecc200_calls.proofs.Names.{◌≡◌, drop, length, take, map, mark_shown}
use Rattle.ecc200_calls.proofs.mark.put_marks.Given as goal

abbrev pub invariant-loop-i : goal.invariant-loop-i
invariant-loop-i l = record {
  prefix : take l.i l.all ≡ map mark_shown (take l.i l.marks);
  behind : drop l.i l.all ≡ drop l.i l.initial.all;
  room : length l.all ≡ length l.initial.all;
}
