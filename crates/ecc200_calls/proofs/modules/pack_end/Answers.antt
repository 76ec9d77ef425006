use Rattle.ecc200_calls.proofs.Names.{◌∙◌, ap, arith, is_dark}
use Rattle.ecc200_calls.proofs.Packing.{rest_at}
use Rattle.ecc200_calls.proofs.modules.pack_end.Goals as goal

pub returns : goal.returns
returns c column l =
    let there = rest_at c.args.modules.now 128 column 0 (omega (arith, l, c.requires.there)) in
    c.pack_together.ensures column (omega (arith, l, c.requires.few)) there.0 ∙ ap is_dark there.1
