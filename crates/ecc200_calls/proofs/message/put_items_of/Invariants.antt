use Rattle.ecc200_calls.proofs.Names.{◌≡◌, length, take, IsMessage, map, map, number_of}
use Rattle.ecc200_calls.proofs.message.put_items_of.Given as goal

abbrev pub invariant-loop-i : goal.invariant-loop-i
invariant-loop-i g l = record {
  prefix : map number_of (take l.i l.all) ≡ take l.i (map g.N.ItemNumber.number l.numbers);
  message : IsMessage (take l.i l.all);
  room : length l.all ≡ length l.initial.all;
}
