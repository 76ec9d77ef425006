use Rattle.std.proofs.Common.{◌≡◌, ◌-◌, ◌*◌, ◌+◌, ◌≤◌, length, ap, ◌∙◌, arith}
use Rattle.std.proofs.lemmas.List.{length-map}
use Rattle.gf301.specs.Field.{power}
use Rattle.gf301.specs.Polynomial.{value, values_from}
use Rattle.gf301.proofs.Exported.{length-values_from}
use Rattle.dm_code.specs.inner.OddTerms.{odd_part}
use Rattle.dm_code.proofs.OddTerms.{lane_odd, lane_value}
use Rattle.dm_code.proofs.WeighedSums.{length-stored, stored}
use Rattle.dm_code.proofs.weighing.at_places.Goals as goal

pub loop-part-preserved : goal.loop-part-preserved
loop-part-preserved c =
    let t = c.args.terms.now in
    let a = 16 * c.loop-part.part in
    let m = 256 - a in
    let xs = c.loop-part.values in
    let os = c.loop-part.odd in
    let r = c.long_sums.result.0 in
    let o = c.long_sums.result.1 in
    let v = c.loop-part.invariant in
    let vl = v.values_long in
    let ol = v.odd_long in
    let room : a + 16 ≤ 256 = omega (arith, c.div_ceil-part-end.ensures, c.requires.long) in
    let rl : length r ≡ 16 =
    ap length c.long_sums.ensures.values ∙ length-map (values_from power a 16) (value t)
    ∙ length-values_from power a 16 in
    let sl : length o ≡ 16 =
    ap length c.long_sums.ensures.odd ∙ length-map (values_from power a 16) (odd_part t)
    ∙ length-values_from power a 16 in
    record {
      values_long = length-stored a m xs r (omega arith) ∙ vl;
      odd_long = length-stored a m os o (omega arith) ∙ ol;
      values =
          λ e h. stored a m xs r (λ e. value t (power e)) (omega arith) (omega arith) rl v.values
          (λ i b. lane_value t r a i c.long_sums.ensures.values b) e (omega arith);
      odd =
          λ e h. stored a m os o (λ e. odd_part t (power e)) (omega arith) (omega arith) sl v.odd
          (λ i b. lane_odd t o a i c.long_sums.ensures.odd b) e (omega arith);
    }
