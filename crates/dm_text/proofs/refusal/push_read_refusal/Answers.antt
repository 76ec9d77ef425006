use Rattle.dm_text.proofs.refusal.push_read_refusal.Goals as goal

pub returns-in-Border-clause-text : goal.returns-in-Border-clause-text
returns-in-Border-clause-text c = rw c.in-Border.is (rw (← c.from.ensures) c.push_numbered.ensures.text)

pub returns-in-Block-clause-text : goal.returns-in-Block-clause-text
returns-in-Block-clause-text c = rw c.in-Block.is (rw (← c.from-in-Block.ensures) c.push_numbered-in-Block.ensures.text)
