use Rattle.std.proofs.Common.{◌≡◌, ◌-◌, ◌<◌, ◌≤◌, ℕ, suc, length, get_or}
use Rattle.dm_code.proofs.quick.backwards.Given as goal

abbrev pub invariant-loop-i : goal.invariant-loop-i
invariant-loop-i l = record {
  long : length l.back ≡ 116;
  done : (j : ℕ) → j < l.i → get_or l.back (length l.s - suc j) 0 ≡ get_or l.s j 0;
  zeros : (j : ℕ) → length l.s ≤ j → get_or l.back j 0 ≡ 0;
}
