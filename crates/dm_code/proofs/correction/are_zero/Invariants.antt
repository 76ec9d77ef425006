use Rattle.std.proofs.Common.{◌≡◌, ◌<◌, ℕ, false, get_or}
use Rattle.std.specs.List.{All}
use Rattle.dm_code.proofs.correction.are_zero.Given as goal

-- No other number stood before this one where none was seen, and none is seen where there is none.
abbrev pub invariant-loop-a : goal.invariant-loop-a
invariant-loop-a l = record {
  seen : l.other ≡ false → (k : ℕ) → k < l.a-index → get_or l.list k 0 ≡ 0;
  none : All (λ a. a ≡ 0) l.list → l.other ≡ false;
}
