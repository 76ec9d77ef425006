use Rattle.std.proofs.Common.{◌≡◌}
use Rattle.gf301.specs.Polynomial.{coefficient, values_from}
use Rattle.dm_code.proofs.polynomial.first_coefficients.Given as goal

abbrev pub invariant-loop-i : goal.invariant-loop-i
invariant-loop-i l = l.first.items ≡ values_from (coefficient l.list) 0 l.i
