use Rattle.std.proofs.Common.{◌≡◌, ◌+◌, ◌-◌, ◌<◌, ℕ, length, get_or}
use Rattle.dm_code.proofs.elimination.row_of.Given as goal

abbrev pub invariant-loop-m : goal.invariant-loop-m
invariant-loop-m l = record {
  long : length l.row ≡ 35;
  each : (j : ℕ) → j < l.m → get_or l.row (34 - l.degree + j) 0 ≡ get_or l.s (l.i + j) 0;
}
