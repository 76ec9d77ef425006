use Rattle.dm_layout.proofs.symbols.SmallestSize.{chosen, enough, smallest, narrowest, none_enough}
use Rattle.dm_layout.proofs.symbols.size.SymbolSize.for_words.Goals as goal

pub returns-clause-chosen : goal.returns-clause-chosen
returns-clause-chosen c = chosen c.args.choice c.args.count c.first_with.result c.first_with.ensures

pub returns-clause-enough : goal.returns-clause-enough
returns-clause-enough c = enough c.args.choice c.args.count c.first_with.result c.first_with.ensures

pub returns-clause-smallest : goal.returns-clause-smallest
returns-clause-smallest c = smallest c.args.choice c.args.count c.first_with.result c.first_with.ensures

pub returns-clause-narrowest : goal.returns-clause-narrowest
returns-clause-narrowest c = narrowest c.args.choice c.args.count c.first_with.result c.first_with.ensures

pub returns-clause-none : goal.returns-clause-none
returns-clause-none c = none_enough c.args.choice c.args.count c.first_with.result c.first_with.ensures
