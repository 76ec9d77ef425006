use Rattle.std.proofs.Common.{◌≡◌, ◌+◌, ◌*◌, take}
use Rattle.gf301.specs.Field.{power}
use Rattle.gf301.specs.Polynomial.{value}
use Rattle.dm_code.proofs.syndrome.value_by_sixteens.Given as goal

abbrev pub invariant-loop-part : goal.invariant-loop-part
invariant-loop-part l =
    value l.lanes (power l.exponent) ≡ value (take (l.count + 16 * l.part) l.word) (power l.exponent)
