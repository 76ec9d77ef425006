use Rattle.dm_words.proofs.Names.{◌∷◌, [], refl}
use Rattle.dm_words.specs.Values.{plain}
use Rattle.dm_words.proofs.smallest.values.push_low.Goals as goal

pub returns-in-Plain : goal.returns-in-Plain
returns-in-Plain c = (c.in-Plain.value ∷ [], c.push.ensures.items, plain c.in-Plain.value c.in-Plain.ensures refl)
