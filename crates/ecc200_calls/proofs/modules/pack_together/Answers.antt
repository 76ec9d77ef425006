use Rattle.ecc200_calls.proofs.Names.{Fits-bits}
use Rattle.ecc200_calls.proofs.Packing.{mask_small, mask_dark}
use Rattle.ecc200_calls.proofs.modules.pack_together.Goals as goal

pub overflow_cast-result : goal.overflow_cast-result
overflow_cast-result c =
    Fits-bits 16 tt (mask_small 16 c.args.modules.now c.dark_bits.result c.dark_bits.ensures
    c.if-modules-lt-TOGETHER.false)

pub returns : goal.returns
returns c = mask_dark 16 c.args.modules.now c.dark_bits.result c.dark_bits.ensures c.if-modules-lt-TOGETHER.false
