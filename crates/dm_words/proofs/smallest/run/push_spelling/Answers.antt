use Rattle.dm_words.proofs.Names.{arith}
use Rattle.dm_words.proofs.SpellingCounts.{spelling_count, spelling_small, few_values}
use Rattle.dm_words.proofs.smallest.run.push_spelling.Goals as goal

pub push_values-requires : goal.push_values-requires
push_values-requires c =
    let values = c.values_of-values.result.items in
    let spells = c.values_of-values.ensures in record {
      small = rw c.deref.ensures.0 (spelling_small c.args.set values c.args.item spells);
      part = c.requires.part;
      few = rw c.deref.ensures.0 (few_values c.args.set values c.args.item spells);
      room = rw c.deref.ensures.0 (omega (arith, spelling_count c.args.set values c.args.item spells, c.requires.room));
    }

pub returns-clause-pushed : goal.returns-clause-pushed
returns-clause-pushed c =
    (c.values_of-values.result.items, c.values_of-values.ensures, rw c.deref.ensures.0 at c.push_values.ensures.pushed)
