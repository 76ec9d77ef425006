use Rattle.std.proofs.Common.{◌≡◌, ◌<◌, ℕ, length}
use Rattle.gf301.specs.Field.{◌⊕◌, ◌⊗◌}
use Rattle.dm_code.specs.inner.LinearSystem.{row}
use Rattle.dm_code.proofs.system.without.Given as goal

abbrev pub invariant-loop-k : goal.invariant-loop-k
invariant-loop-k l = record {
  long : length l.less.items ≡ l.k;
  each : (i : ℕ) → i < l.k → (j : ℕ) → row l.less.items i j ≡
      row l.rows i j ⊕ (row l.rows i l.unknown ⊗ l.inverse.0) ⊗ row l.rows l.p j;
}
