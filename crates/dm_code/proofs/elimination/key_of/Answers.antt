use Rattle.std.proofs.Common.{◌<◌, arith, sym, subst}
use Rattle.gf301.specs.Polynomial.{coefficient}
use Rattle.gf301.proofs.Exported.{conv_below}
use Rattle.dm_code.proofs.Bytes.{bytes_places}
use Rattle.dm_code.proofs.elimination.key_of.Goals as goal

pub returns-clause-evaluator_bytes : goal.returns-clause-evaluator_bytes
returns-clause-evaluator_bytes c =
    let v = c.evaluator_of-evaluator in
    bytes_places v.result.items (λ i h.
    subst (λ z. z < 256) (sym (v.ensures.each i (omega (arith, v.ensures.long))))
    (conv_below (coefficient c.deref.result.now) (coefficient c.args.s.now) i))

pub returns-clause-locator_bytes : goal.returns-clause-locator_bytes
returns-clause-locator_bytes c =
    bytes_places c.loop-i.locator.items (λ i h. c.loop-i.invariant.bytes i (omega (arith, c.loop-i.invariant.long)))
