use Rattle.std.proofs.Common.{◌≡◌, ◌-◌, ◌<◌, ℕ, suc, length, get_or}
use Rattle.gf301.specs.Field.{◌⊗◌}
use Rattle.dm_code.proofs.weighing.less_places.Given as goal

abbrev pub invariant-loop-i : goal.invariant-loop-i
invariant-loop-i l = record {
  long : length l.less.items ≡ l.i;
  each : (j : ℕ) → j < l.i → get_or l.less.items j 0 ≡
      get_or l.word j 0 ⊗ get_or l.weights (length l.word - suc j) 0;
}
