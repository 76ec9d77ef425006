use Rattle.std.proofs.Common.{◌≡◌, ◌-◌, ◌*◌, length, map, drop}
use Rattle.gf301.specs.Field.{power}
use Rattle.gf301.specs.Polynomial.{value, values_from}
use Rattle.dm_code.specs.inner.OddTerms.{odd_part}
use Rattle.dm_code.proofs.polynomial.sums.Given as goal

abbrev pub invariant-loop-pair : goal.invariant-loop-pair
invariant-loop-pair l = record {
  values : l.values ≡ map (value (drop (length l.terms - 2 * l.pair) l.terms)) (values_from power l.fn.first 16);
  odd : l.odd ≡ map (odd_part (drop (length l.terms - 2 * l.pair) l.terms)) (values_from power l.fn.first 16);
}
