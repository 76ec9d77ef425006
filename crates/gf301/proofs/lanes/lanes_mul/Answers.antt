use Rattle.std.proofs.Common.{◌≡◌, ◌-◌, ◌+◌, ◌<◌, ◌^◌, suc, subst, ◌∙◌, sym, arith, w8}
use Rattle.std.proofs.lemmas.Simd.{length-zip2, below_from_Fits}
use lib.Lanes.{zip2, Each1}
use Rattle.gf301.specs.Field.{◌⊗◌}
use Rattle.gf301.proofs.LaneProducts.{first_turn, turn_lanes, fewer_bits, last_turn}
use Rattle.gf301.proofs.lanes.lanes_mul.Goals as goal

pub loop-turn-init : goal.loop-turn-init
loop-turn-init c =
    let product = zip2 (λ x y. x ⊗ y) c.args.a c.args.b in (
      first_turn product 16 (length-zip2 (λ x y. x ⊗ y) c.args.a c.args.b (c.fits-a.0 ∙ sym c.fits-b.0) ∙ c.fits-a.0),
      below_from_Fits w8 c.args.b c.fits-b.1,
    )

pub loop-turn-preserved : goal.loop-turn-preserved
loop-turn-preserved c =
    let turns = c.loop-turn.auto in
    let left = 8 - (c.loop-turn._turn + 1) in
    let e : 8 - c.loop-turn._turn ≡ suc left = omega arith in
    rw c.double-multiple.ensures (
      turn_lanes c.loop-turn.sum c.loop-turn.multiple c.loop-turn.bits 16 turns.sum.0 turns.multiple.0 turns.bits.0
          turns.multiple.1 turns.bits.1 ∙ c.loop-turn.invariant.0,
      fewer_bits left c.loop-turn.bits 16 (subst (λ n. Each1 (λ b. b < 2 ^ n) c.loop-turn.bits) e
          c.loop-turn.invariant.1),
    )

pub returns : goal.returns
returns c =
    let turns = c.loop-turn.auto in
    let e : 8 - c.loop-turn._turn ≡ 0 = omega arith in
    sym (last_turn c.loop-turn.sum c.loop-turn.multiple c.loop-turn.bits 16 turns.sum.0 turns.multiple.0 turns.bits.0
    (subst (λ n. Each1 (λ b. b < 2 ^ n) c.loop-turn.bits) e c.loop-turn.invariant.1))
    ∙ c.loop-turn.invariant.0
