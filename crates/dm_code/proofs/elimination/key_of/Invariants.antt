use Rattle.std.proofs.Common.{◌≡◌, ◌-◌, ◌<◌, ℕ, length, get_or}
use Rattle.dm_code.proofs.elimination.key_of.Given as goal

abbrev pub invariant-loop-i : goal.invariant-loop-i
invariant-loop-i l = record {
  long : length l.locator.items ≡ l.i;
  each : (j : ℕ) → j < l.i → get_or l.locator.items j 0 ≡ get_or l.solution (34 - j) 0;
  bytes : (j : ℕ) → j < l.i → get_or l.locator.items j 0 < 256;
}
