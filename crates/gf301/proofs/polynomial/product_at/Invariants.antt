use Rattle.std.proofs.Common.{◌≡◌, take}
use Rattle.gf301.specs.Polynomial.{coefficient, convolution}
use Rattle.gf301.proofs.polynomial.product_at.Given as goal

abbrev pub invariant-loop-i : goal.invariant-loop-i
invariant-loop-i l = l.sum.0 ≡ convolution (coefficient (take l.i l.p)) (coefficient l.q) l.place
