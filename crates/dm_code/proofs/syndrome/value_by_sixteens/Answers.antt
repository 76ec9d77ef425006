use Rattle.std.proofs.Common.{◌≡◌, ◌+◌, ◌*◌, ◌%◌, length, take, sym, ap, ◌∙◌, arith, bit_xor}
use Rattle.std.proofs.lemmas.Simd.{length-chunk}
use lib.Lanes.{zip2, chunk}
use Rattle.gf301.specs.Field.{power}
use Rattle.gf301.specs.Polynomial.{value}
use Rattle.gf301.proofs.Exported.{raise_mul}
use Rattle.dm_code.proofs.SyndromeLanes.{joined_value, take_parts}
use Rattle.dm_code.proofs.syndrome.value_by_sixteens.Goals as goal

pub loop-part-preserved : goal.loop-part-preserved
loop-part-preserved c =
    let w = c.args.word.now in
    let e = c.args.exponent in
    let n = length w % 16 + 16 * c.loop-part.part in
    let r = chunk n 16 w in
    ap (λ v. value (zip2 bit_xor v r) (power e)) c.scale.ensures
    ∙ joined_value c.loop-part.lanes (take n w) r c.power_of_two-step.result.0 (power e) 16 c.loop-part.auto.lanes.0
    (length-chunk n 16 w (omega arith))
    (c.power_of_two-step.ensures ∙ ap power (let q : 16 * e ≡ e * 16 = omega arith in q) ∙ raise_mul 2 e 16)
    c.loop-part.invariant
    ∙ ap (λ p. value p (power e)) (sym (take_parts n 16 w)
    ∙ ap (λ m. take m w) (let q : n + 16 ≡ length w % 16 + 16 * (c.loop-part.part + 1) = omega arith in q))
