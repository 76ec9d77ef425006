use Rattle.dm_words.proofs.Names.{arith}
use Rattle.std.proofs.lemmas.Grind.{common_steps}
use Rattle.dm_words.proofs.smallest.contents.least_way.Goals as goal

pub returns-in-None-clause-least : goal.returns-in-None-clause-least
returns-in-None-clause-least c = record {
  parts = omega (arith, c.marked_cost.ensures.cost, c.head_words_length.ensures.value);
  framed = λ word digit text k none e no_fnc1 marks.
      absurd (c.in-None.ensures.none word digit text k none e no_fnc1 marks);
}

pub returns-then-by_macro-cost-clause-least : goal.returns-then-by_macro-cost-clause-least
returns-then-by_macro-cost-clause-least c = grind (arith, common_steps)

pub returns-else-by_macro-cost-clause-least : goal.returns-else-by_macro-cost-clause-least
returns-else-by_macro-cost-clause-least c = grind (arith, common_steps)
