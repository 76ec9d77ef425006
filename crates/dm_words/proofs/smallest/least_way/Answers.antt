use Rattle.dm_words.proofs.Names.{◌∙◌, ap, arith, Setting, parts_cost}
use Rattle.dm_words.proofs.smallest.least_way.Goals as goal

pub returns-in-None-clause-least : goal.returns-in-None-clause-least
returns-in-None-clause-least c = record {
  parts = omega (
    arith,
    c.plan_to-lengths.ensures.cost ∙ ap (λ (s : Setting). parts_cost s c.args.items.now) c.at_end.ensures,
  );
  macros = λ word digit text wide k e no_fnc1. absurd (c.in-None.ensures.none word digit text wide k e no_fnc1);
}
