use Rattle.std.proofs.Common.{◌≡◌, ◌+◌, ◌*◌, ◌<◌, ℕ, length, get_or}
use Rattle.gf301.specs.Polynomial.{coefficient, convolution}
use Rattle.dm_code.proofs.quick.evaluator_of.Given as goal

abbrev pub invariant-loop-i : goal.invariant-loop-i
invariant-loop-i l = record {
  long : length l.evaluator.items ≡ l.i;
  each : (j : ℕ) → j < l.i → get_or l.evaluator.items j 0 ≡ convolution (coefficient l.locator) (coefficient l.s) j;
  bytes : (j : ℕ) → j < l.i → get_or l.evaluator.items j 0 < 256;
  products : 2 * l.meter.products ≡ 2 * l.initial.meter.products + l.i * (l.i + 1);
  inversions : l.meter.inversions ≡ l.initial.meter.inversions;
}
