use Rattle.dm_symbol.proofs.Names.{◌≤◌, ◌<◌, ◌≡◌, ◌∙◌, length, ap, sym, arith, block_check, block_of}
use Rattle.dm_symbol.proofs.Distances.{few_found}
use Rattle.dm_symbol.proofs.SymbolBelow.{block_facts, only_block, only_short}
use Rattle.dm_symbol.proofs.symbol.correction.codeword_near.Goals as goal
use Rattle.dm_symbol.proofs.symbol.correction.codeword_near.Goals.{Then-blocks-eq1}

-- What is handed to the correction is the block, with its check codewords, where it is the only one.
only : (c : Then-blocks-eq1) → (c.from-checks.result ≡ block_check c.args.size)
    × (c.args.words.now ≡ block_of c.args.size.blocks c.args.b c.args.words.now)
    × (length c.args.words.now ≤ 255) × (block_check c.args.size < length c.args.words.now)
only c =
    let one : c.args.size.blocks ≡ 1 = omega (arith, c.blocks-2.ensures.value, c.if-blocks-eq1.true) in
    let short = only_short c.args.size c.args.words.now c.requires.words one in (
      c.from-checks.ensures ∙ c.block_check.ensures.value,
      sym (only_block c.args.size c.args.words.now c.requires.words one c.args.b c.requires.block),
      short.0,
      short.1,
    )

pub correct_to-requires-clause-data : goal.correct_to-requires-clause-data
correct_to-requires-clause-data c =
    let o = only (goal.at.correct_to-requires-clause-data c).Then-blocks-eq1 in
    omega (arith, o.0, o.3)

pub correct_to-requires-clause-long : goal.correct_to-requires-clause-long
correct_to-requires-clause-long c = (only (goal.at.correct_to-requires-clause-long c).Then-blocks-eq1).2

pub correct_to-requires-2-clause-data : goal.correct_to-requires-2-clause-data
correct_to-requires-2-clause-data c =
    let f = block_facts c.args.size c.requires.words.size c.args.b c.requires.block in
    omega (
      arith,
      c.from-checks.ensures,
      c.block_check.ensures.value,
      c.block.ensures.length,
      ap length c.deref.ensures.0,
      f.some_data,
    )

pub returns-then-blocks-eq1 : goal.returns-then-blocks-eq1
returns-then-blocks-eq1 c =
    let o = only (goal.at.returns-then-blocks-eq1 c).Then-blocks-eq1 in
    let near = rw (o.0, o.1) at c.correct_to.ensures.near in
    let changed = rw o.1 at c.correct_to.ensures.changed in
    record {
      near = near;
      changed = changed;
      itself = rw (o.0, o.1) at c.correct_to.ensures.itself.0;
      few = few_found c.correct_to.result c.correct_to.new.fixed.items (block_check c.args.size)
          (block_of c.args.size.blocks c.args.b c.args.words.now) near changed;
    }
