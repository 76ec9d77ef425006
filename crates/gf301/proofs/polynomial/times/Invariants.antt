use Rattle.std.proofs.Common.{◌≡◌}
use Rattle.gf301.specs.Polynomial.{coefficient, convolution, values_from}
use Rattle.gf301.proofs.polynomial.times.Given as goal

abbrev pub invariant-loop-place : goal.invariant-loop-place
invariant-loop-place l = l.product.items ≡ values_from (convolution (coefficient l.p) (coefficient l.q)) 0 l.place
