use Rattle.dm_words.proofs.Names.{arith}
use Rattle.std.proofs.lemmas.Grind.{common_steps}
use Rattle.dm_words.proofs.pad.padded.Goals as goal

pub returns-clause-words : goal.returns-clause-words
returns-clause-words c = grind (arith, common_steps)
