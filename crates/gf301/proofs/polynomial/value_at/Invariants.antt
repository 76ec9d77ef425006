use Rattle.std.proofs.Common.{◌≡◌, take}
use Rattle.gf301.specs.Polynomial.{value}
use Rattle.gf301.proofs.polynomial.value_at.Given as goal

abbrev pub invariant-loop-c : goal.invariant-loop-c
invariant-loop-c l = l.sum.0 ≡ value (take l.c-index l.p) l.at.0
