use Rattle.dm_words.proofs.Names.{arith}
use Rattle.std.proofs.lemmas.Grind.{common_steps}
use Rattle.dm_words.proofs.smallest.with_macro.Goals as goal

pub returns-then-by_macro-cost-clause-least : goal.returns-then-by_macro-cost-clause-least
returns-then-by_macro-cost-clause-least c = grind (arith, common_steps)

pub returns-clause-least : goal.returns-clause-least
returns-clause-least c = grind (arith, common_steps)
