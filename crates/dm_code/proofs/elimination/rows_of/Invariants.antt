use Rattle.std.proofs.Common.{◌≡◌, ◌+◌, ◌-◌, ◌<◌, ◌≤◌, ℕ, length, get_or}
use Rattle.dm_code.specs.inner.LinearSystem.{row}
use Rattle.dm_code.proofs.elimination.rows_of.Given as goal

abbrev pub invariant-loop-i : goal.invariant-loop-i
invariant-loop-i l = record {
  long : length l.rows.items ≡ l.i;
  each : (k : ℕ) → k < l.i → (m : ℕ) → m ≤ l.degree → row l.rows.items k (34 - l.degree + m) ≡ get_or l.s (k + m) 0;
}
