use Rattle.dm_symbol.proofs.Names.{◌∙◌, ◌++◌, ap, take, block_data, block_of}
use Rattle.dm_symbol.proofs.SymbolWriteSteps.{checks_keep_data}
use Rattle.dm_symbol.proofs.symbol.writing.complete_block.Goals as goal

pub returns-clause-data_words : goal.returns-clause-data_words
returns-clause-data_words c =
    let s = c.args.size in
    let w = c.args.words.now in
    checks_keep_data s w c.put_block_checks.new.words c.encode-checks.result.items c.args.b c.requires.words
    c.put_block_checks.ensures.words c.requires.block
    (c.put_block_checks.ensures.put
    ∙ ap (λ xs. take (block_data s c.args.b) (block_of s.blocks c.args.b w) ++ xs) c.deref-2.ensures.0)
    c.put_block_checks.ensures.others
