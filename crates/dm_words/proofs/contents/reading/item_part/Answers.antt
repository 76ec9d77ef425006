use Rattle.dm_words.proofs.Names.{◌+◌, drop}
use Rattle.dm_words.proofs.ContentLoops.{item_taken, item_fault}
use Rattle.dm_words.proofs.contents.reading.item_part.Goals as goal

pub returns-in-Ok-clause-taken : goal.returns-in-Ok-clause-taken
returns-in-Ok-clause-taken c = item_taken _ (c.args.at + 1) _ _ _ _ c.requires.other c.in-Ok.ensures.taken

pub returns-in-Err-clause-taken : goal.returns-in-Err-clause-taken
returns-in-Err-clause-taken c = λ marks.
    item_fault c.args.extent (c.args.at + 1) (drop c.args.at c.args.words.now) c.in-Err.fault c.requires.other
    c.in-Err.ensures.taken
