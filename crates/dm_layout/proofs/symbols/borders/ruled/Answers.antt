use Rattle.dm_layout.proofs.Names.{ℕ, ◌+◌, ◌*◌, ◌<◌, ◌≤◌, arith, mul-le-mul_right}
use Rattle.dm_layout.proofs.symbols.BorderMasks.{one_ruled}
use Rattle.dm_layout.proofs.symbols.borders.ruled.Goals as goal

-- The regions that are counted from the left lie within the columns.
inside : (last a n : ℕ) → a < n → n * (last + 1) ≤ 128 → (a + 1) * (last + 1) ≤ 128
inside last a n l fits =
    let m : (a + 1) * (last + 1) ≤ n * (last + 1) = mul-le-mul_right (last + 1) (omega (arith, l)) in
    omega (arith, m, fits)

pub loop-region-preserved : goal.loop-region-preserved
loop-region-preserved c =
    one_ruled c.args.last c.loop-region.region c.loop-region.left c.loop-region.both c.requires.some
    (inside c.args.last c.loop-region.region c.args.regions c.loop-region-test.true c.requires.fits)
    c.loop-region.invariant
