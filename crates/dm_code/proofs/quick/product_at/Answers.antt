use Rattle.std.proofs.Common.{◌≡◌, ◌-◌, ◌+◌, ◌*◌, ◌/◌, suc, length, sym, ap, ◌∙◌, arith}
use Rattle.gf301.specs.Polynomial.{coefficient}
use Rattle.dm_code.proofs.LaneDots.{conv_lanes}
use Rattle.dm_code.proofs.quick.product_at.Goals as goal

pub returns-clause-coefficient : goal.returns-clause-coefficient
returns-clause-coefficient c =
    let s = c.args.s.now in
    let b = c.args.back.now in
    let n = c.args.n in
    let first = length s - 1 - n in
    c.dot_in_lanes.ensures
    ∙ sym (conv_lanes (coefficient c.args.locator.now) (coefficient s) (λ i. coefficient b (first + i)) n
    (16 * (c.args.degree / 16 + 1))
    (λ j q. ap (coefficient b) (let r : first + j ≡ length s - suc (n - j) = omega arith in r)
    ∙ c.requires.back.each (n - j) (omega arith))
    (λ j q. c.requires.back.zeros (first + j) (omega arith))
    (λ i q. c.requires.zeros i (omega arith)))

pub returns-clause-products : goal.returns-clause-products
returns-clause-products c = omega arith
