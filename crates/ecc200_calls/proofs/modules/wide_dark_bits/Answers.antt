use Rattle.ecc200_calls.proofs.Names.{arith, eqb, not, w8, bitmask_splat}
use Rattle.ecc200_calls.proofs.modules.wide_dark_bits.Goals as goal

pub returns : goal.returns
returns c = bitmask_splat w8 (λ x y. not (eqb x y)) c.args.modules 64 0 c.fits-modules.0 (omega arith)
