use Rattle.ecc200_calls.proofs.Names.{◌≡◌, drop, length, take, map, number_of}
use Rattle.ecc200_calls.proofs.message.put_items.Given as goal

abbrev pub invariant-loop-i : goal.invariant-loop-i
invariant-loop-i l = record {
  prefix : take l.i l.all ≡ map number_of (take l.i l.items);
  behind : drop l.i l.all ≡ drop l.i l.initial.all;
  room : length l.all ≡ length l.initial.all;
}
