use Rattle.dm_words.proofs.Names.{[], ◌∷◌, take}
use Rattle.dm_words.proofs.RunWritten.{none_pushed, one_pushed}
use Rattle.dm_words.proofs.smallest.run.push_item.Goals as goal

pub returns-in-Some-clause-pushed : goal.returns-in-Some-clause-pushed
returns-in-Some-clause-pushed c =
    let value = c.in-Some.value in
    let old = take c.args.held.now c.args.words.now in (
      value ∷ [],
      c.in-Some.ensures.value,
      one_pushed old _ [] old (take c.push_value.new.held c.push_value.new.words) c.args.part c.push_value.result value
          c.in-Some.ensures.small (none_pushed old c.args.part c.requires.part) c.push_value.ensures.pushed,
    )
