use Rattle.std.proofs.Common.{arith, eqb, w8}
use Rattle.std.proofs.lemmas.Simd.{bitmask_splat}
use Rattle.dm_code.proofs.correction.zero_lanes.Goals as goal

pub returns : goal.returns
returns c = bitmask_splat w8 eqb c.args.lanes 16 0 c.fits-lanes.0 (omega arith)
