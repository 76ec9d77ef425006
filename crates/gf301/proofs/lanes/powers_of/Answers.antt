use Rattle.std.proofs.Common.{◌≡◌, sym, ◌∙◌, arith}
use Rattle.gf301.specs.Field.{raise}
use Rattle.gf301.proofs.PowersOf.{ArePowers, one_power, raise_once, raise_twice, twice_powers, all_powers}
use Rattle.gf301.proofs.lanes.powers_of.Goals as goal

pub returns : goal.returns
returns c =
    let x = c.args.x.0 in
    let first : x ≡ raise x 1 = sym (raise_once x (omega arith)) in
    let second : c.mul-second.result.0 ≡ raise x 2 = c.mul-second.ensures ∙ raise_twice x x 1 first in
    let fourth : c.mul-fourth.result.0 ≡ raise x 4 =
    c.mul-fourth.ensures ∙ raise_twice x c.mul-second.result.0 2 second in
    let eighth : c.mul-eighth.result.0 ≡ raise x 8 =
    c.mul-eighth.ensures ∙ raise_twice x c.mul-fourth.result.0 4 fourth in
    let two : ArePowers x 2 c.append_scaled-two.result =
    twice_powers x 1 x _ c.append_scaled-two.result (one_power x) first c.append_scaled-two.ensures.first
    c.append_scaled-two.ensures.scaled c.append_scaled-two.ensures.free in
    let four : ArePowers x 4 c.append_scaled-four.result =
    twice_powers x 2 c.mul-second.result.0 _ c.append_scaled-four.result two second c.append_scaled-four.ensures.first
    c.append_scaled-four.ensures.scaled c.append_scaled-four.ensures.free in
    let eight : ArePowers x 8 c.append_scaled-eight.result =
    twice_powers x 4 c.mul-fourth.result.0 _ c.append_scaled-eight.result four fourth
    c.append_scaled-eight.ensures.first c.append_scaled-eight.ensures.scaled c.append_scaled-eight.ensures.free in
    all_powers x c.append_scaled.result (omega arith)
    (twice_powers x 8 c.mul-eighth.result.0 _ c.append_scaled.result eight eighth c.append_scaled.ensures.first
    c.append_scaled.ensures.scaled c.append_scaled.ensures.free)
