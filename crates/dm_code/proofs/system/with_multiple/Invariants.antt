use Rattle.std.proofs.Common.{◌≡◌, ◌<◌, ℕ, get_or, length}
use Rattle.gf301.specs.Field.{◌⊕◌, ◌⊗◌}
use Rattle.dm_code.proofs.system.with_multiple.Given as goal

abbrev pub invariant-loop-j : goal.invariant-loop-j
invariant-loop-j l = record {
  long : length l.sum ≡ 35;
  done : (k : ℕ) → k < l.j → get_or l.sum k 0 ≡ get_or l.f k 0 ⊕ l.x.0 ⊗ get_or l.g k 0;
}
