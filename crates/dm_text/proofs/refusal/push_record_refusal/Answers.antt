use Rattle.dm_text.proofs.refusal.push_record_refusal.Goals as goal

pub returns-in-Character-clause-text : goal.returns-in-Character-clause-text
returns-in-Character-clause-text c = rw c.in-Character.is c.push_all.ensures

pub returns-in-Large-clause-text : goal.returns-in-Large-clause-text
returns-in-Large-clause-text c = rw c.in-Large.is c.push_all-in-Large.ensures

pub returns-in-NotSquare-clause-text : goal.returns-in-NotSquare-clause-text
returns-in-NotSquare-clause-text c = rw c.in-NotSquare.is c.push_all-in-NotSquare.ensures

pub returns-in-NoSuchSize-clause-text : goal.returns-in-NoSuchSize-clause-text
returns-in-NoSuchSize-clause-text c = rw c.in-NoSuchSize.is (rw (← c.from.ensures) c.push_numbered.ensures.text)
