use Rattle.ecc200_calls.proofs.Names.{◌∙◌, arith}
use Rattle.ecc200_calls.proofs.Packing.{mask_dark}
use Rattle.ecc200_calls.proofs.modules.pack_start.Goals as goal

pub returns-then-across-le-WIDE : goal.returns-then-across-le-WIDE
returns-then-across-le-WIDE c column l within =
    mask_dark 64 c.args.modules.now c.from-first.result (c.from-first.ensures ∙ c.wide_dark_bits.ensures)
    c.if-modules-lt-WIDE.false column (omega (arith, l, within, c.min-across.ensures, c.if-across-le-WIDE.true))
    (omega (arith, within, c.requires))

pub pack_on-requires-2-clause-packed : goal.pack_on-requires-2-clause-packed
pack_on-requires-2-clause-packed c column l within =
    mask_dark 64 c.args.modules.now c.from-first.result (c.from-first.ensures ∙ c.wide_dark_bits.ensures)
    c.if-modules-lt-WIDE.false column l (omega (arith, within, c.min-across.ensures, c.requires))
