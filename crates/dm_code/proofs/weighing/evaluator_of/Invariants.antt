use Rattle.std.proofs.Common.{◌≡◌, ◌<◌, ℕ, length, get_or, take}
use Rattle.gf301.specs.Polynomial.{coefficient, convolution}
use Rattle.dm_code.proofs.weighing.evaluator_of.Given as goal

-- The first syndromes, so many, have been multiplied.
abbrev pub invariant-loop-j : goal.invariant-loop-j
invariant-loop-j l = record {
  long : length l.evaluator ≡ 96;
  each : (i : ℕ) → i < length l.syndromes → get_or l.evaluator i 0 ≡
      convolution (coefficient (take l.j l.syndromes)) (coefficient l.locator) i;
}
