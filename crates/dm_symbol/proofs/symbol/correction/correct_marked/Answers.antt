use Rattle.dm_symbol.proofs.Names.{length, ap, arith}
use Rattle.dm_symbol.proofs.SymbolBelow.{block_facts}
use Rattle.dm_symbol.proofs.symbol.correction.correct_marked.Goals as goal

pub correct_erased-requires-clause-data : goal.correct_erased-requires-clause-data
correct_erased-requires-clause-data c =
    let f = block_facts c.args.size c.requires.words.size c.args.b c.requires.block in
    omega (
      arith,
      c.from-checks.ensures,
      c.block_check.ensures.value,
      c.block.ensures.length,
      ap length c.deref.ensures.0,
      f.some_data,
    )
