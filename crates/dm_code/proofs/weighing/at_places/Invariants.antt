use Rattle.std.proofs.Common.{◌≡◌, ◌*◌, ◌<◌, ℕ, length, get_or}
use Rattle.gf301.specs.Field.{power}
use Rattle.gf301.specs.Polynomial.{value}
use Rattle.dm_code.specs.inner.OddTerms.{odd_part}
use Rattle.dm_code.proofs.weighing.at_places.Given as goal

abbrev pub invariant-loop-part : goal.invariant-loop-part
invariant-loop-part l = record {
  values_long : length l.values ≡ 256;
  odd_long : length l.odd ≡ 256;
  values : (e : ℕ) → e < 16 * l.part → get_or l.values e 0 ≡ value l.terms (power e);
  odd : (e : ℕ) → e < 16 * l.part → get_or l.odd e 0 ≡ odd_part l.terms (power e);
}
