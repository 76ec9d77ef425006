use Rattle.ecc200_calls.proofs.Names.{◌≡◌, ◌<◌, ℕ, true, false, get_or}
use Rattle.ecc200_calls.proofs.given.are_zero.Given as goal

abbrev pub invariant-loop-number : goal.invariant-loop-number
invariant-loop-number l = record {
  none : l.other ≡ false → (k : ℕ) → k < l.number-index → get_or l.numbers k 0 ≡ 0;
  some : l.other ≡ true → 0 < l.number-index;
}
