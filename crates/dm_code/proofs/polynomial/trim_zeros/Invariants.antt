use Rattle.std.proofs.Common.{◌≡◌, ◌-◌, ◌<◌, ◌≤◌, ℕ, get_or}
use Rattle.dm_code.proofs.polynomial.trim_zeros.Given as goal

abbrev pub invariant-loop-i : goal.invariant-loop-i
invariant-loop-i l = record {
  below : l.size ≤ l.i;
  zeros : (j : ℕ) → l.size ≤ j → j < l.i → get_or l.list j 0 ≡ 0;
  last : 0 < l.size → get_or l.list (l.size - 1) 0 ≡ 0 → ⊥;
}
