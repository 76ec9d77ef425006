use Rattle.ecc200_calls.proofs.Names.{◌≡◌, drop, length, map, take}
use Rattle.ecc200_calls.proofs.reading.put_counts.Given as goal

abbrev pub invariant-loop-b : goal.invariant-loop-b
invariant-loop-b l = record {
  corrected : take l.b l.corrected ≡ map (λ block. block.corrected) (take l.b l.blocks);
  corrected_behind : drop l.b l.corrected ≡ drop l.b l.initial.corrected;
  corrected_room : length l.corrected ≡ length l.initial.corrected;
  erased : take l.b l.erased ≡ map (λ block. block.erased) (take l.b l.blocks);
  erased_behind : drop l.b l.erased ≡ drop l.b l.initial.erased;
  erased_room : length l.erased ≡ length l.initial.erased;
  left : take l.b l.left ≡ map (λ block. block.left) (take l.b l.blocks);
  left_behind : drop l.b l.left ≡ drop l.b l.initial.left;
  left_room : length l.left ≡ length l.initial.left;
}
