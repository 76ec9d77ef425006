use Rattle.std.proofs.Common.{◌≡◌, ◌-◌, ◌+◌, ◌*◌, ◌%◌, length, length-take, length-drop, map, take, drop, sym, ap, ◌∙◌}
use Rattle.std.proofs.Common.{arith, bit_xor}
use lib.Lanes.{zip2}
use Rattle.gf301.specs.Field.{◌⊗◌, power, raise}
use Rattle.gf301.specs.Polynomial.{value, values_from}
use Rattle.dm_code.proofs.SyndromeLanes.{lanes_part, take_parts}
use Rattle.std.proofs.lemmas.Grind.{common_steps}
use Rattle.dm_code.proofs.syndrome.values_from_root.Goals as goal

pub loop-part-preserved : goal.loop-part-preserved
loop-part-preserved c =
    let w = c.args.word.now in
    let xs = values_from power c.args.first 16 in
    let n = length w % 32 + 32 * c.loop-part.part in
    let r = take 32 (drop n w) in
    let l : length r ≡ 32 = simp (length-take, length-drop) (omega arith) in
    ap (λ v. zip2 bit_xor v c.sums-in-loop-part.result.0) (c.lanes_mul.ensures
    ∙ ap (λ v. zip2 (λ x y. x ⊗ y) v c.power_row-part_power.result) c.loop-part.invariant
    ∙ ap (zip2 (λ x y. x ⊗ y) (map (value (take n w)) xs)) c.power_row-part_power.ensures)
    ∙ ap (zip2 bit_xor (zip2 (λ x y. x ⊗ y) (map (value (take n w)) xs) (map (λ x. raise x 32) xs)))
    (c.sums-in-loop-part.ensures.values ∙ ap (λ m. map (value (take m (drop n w))) xs) (let e : n + 32 - n ≡ 32 =
    omega arith in e))
    ∙ lanes_part (take n w) r xs 32 l
    ∙ ap (λ p. map (value p) xs) (sym (take_parts n 32 w)
    ∙ ap (λ m. take m w) (let e : n + 32 ≡ length w % 32 + 32 * (c.loop-part.part + 1) = omega arith in e))

pub returns : goal.returns
returns c = grind (arith, common_steps)
