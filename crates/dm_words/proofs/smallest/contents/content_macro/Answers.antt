use Rattle.dm_words.proofs.smallest.contents.content_macro.Goals as goal

pub returns-in-None-clause-none : goal.returns-in-None-clause-none
returns-in-None-clause-none c = rw c.in-None.is c.macro_between.ensures.none
