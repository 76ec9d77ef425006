use Rattle.ecc200_calls.proofs.Names.{◌≡◌, length, map, take}
use Rattle.ecc200_calls.specs.Sizes.{size_shown}
use Rattle.ecc200_calls.proofs.size_table.put_sizes.Given as goal

abbrev pub invariant-loop-i : goal.invariant-loop-i
invariant-loop-i l = record {
  prefix : take l.i l.entries ≡ map size_shown (take l.i l.sizes);
  room : length l.entries ≡ length l.sizes;
}
