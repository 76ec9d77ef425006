use Rattle.dm_words.proofs.Names.{arith}
use Rattle.std.proofs.lemmas.Grind.{common_steps}
use Rattle.dm_words.proofs.contents.reading.content_to_as.Goals as goal

pub returns-in-Ok-clause-read : goal.returns-in-Ok-clause-read
returns-in-Ok-clause-read g c = c.in-Ok.ensures.content

pub invariant_of-content-in-Err : goal.invariant_of-content-in-Err
invariant_of-content-in-Err g c = grind (arith, common_steps)

pub returns-in-Err-clause-emptied : goal.returns-in-Err-clause-emptied
returns-in-Err-clause-emptied g c = grind (arith, common_steps)
