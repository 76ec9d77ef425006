use Rattle.std.proofs.Common.{◌≡◌, ◌-◌, ◌<◌, ◌≤◌, ℕ, suc, length, get_or}
use Rattle.gf301.specs.Field.{◌⊗◌}
use Rattle.dm_code.proofs.weighing.divide_changed.Given as goal

abbrev pub invariant-loop-i : goal.invariant-loop-i
invariant-loop-i l = record {
  bytes : (j : ℕ) → get_or l.word j 0 < 256;
  later : (j : ℕ) → l.i ≤ j → get_or l.word j 0 ≡ get_or l.initial.word j 0;
  same : (j : ℕ) → j < l.i → get_or l.near j 0 ≡ get_or l.less j 0 → get_or l.word j 0 ≡ get_or l.initial.word j 0;
  changed : (j : ℕ) → j < l.i → (get_or l.near j 0 ≡ get_or l.less j 0 → ⊥) →
      0 < get_or l.weights (length l.near - suc j) 0 →
      get_or l.weights (length l.near - suc j) 0 ⊗ get_or l.word j 0 ≡ get_or l.near j 0;
}
