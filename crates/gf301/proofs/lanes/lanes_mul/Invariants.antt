use Rattle.std.proofs.Common.{◌≡◌, ◌-◌, ◌^◌, ◌<◌, bit_xor}
use Rattle.std.specs.Simd.Lanes.{zip2}
use lib.Lanes.{Each1}
use Rattle.gf301.specs.Field.{◌⊗◌}
use Rattle.gf301.proofs.lanes.lanes_mul.Given as goal

abbrev pub invariant-loop-turn : goal.invariant-loop-turn
invariant-loop-turn l =
    (zip2 bit_xor l.sum (zip2 (λ x y. x ⊗ y) l.multiple l.bits) ≡ zip2 (λ x y. x ⊗ y) l.fn.a l.fn.b)
    × Each1 (λ y. y < 2 ^ (8 - l._turn)) l.bits
