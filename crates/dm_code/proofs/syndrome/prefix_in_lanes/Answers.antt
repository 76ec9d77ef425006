use Rattle.std.proofs.Common.{◌≡◌, ◌-◌, ◌%◌, length, length-take, take, ap, ◌∙◌, arith}
use Rattle.gf301.specs.Polynomial.{value}
use Rattle.dm_code.proofs.SyndromeLanes.{value_behind_zeros}
use Rattle.dm_code.proofs.syndrome.prefix_in_lanes.Goals as goal

pub returns : goal.returns
returns c = λ x.
    let w = c.args.word.now in
    let n = length w % 16 in
    let e : c.copy_from_slice.new.self ≡ take n w = c.copy_from_slice.ensures.after in
    let l : length (take n w) ≡ n = simp length-take (omega arith) in
    value_behind_zeros 16 (16 - n) (16 - (16 - n)) c.copy_from_slice.new.self x (omega arith) (ap length e
    ∙ (let q : length (take n w) ≡ 16 - (16 - n) = omega arith in q)) ∙ ap (λ p. value p x) e
