use Rattle.dm_words.proofs.Names.{◌∷◌, [], List, Bool, true, false, replicate, arith, sel_l, nat_tests}
use Rattle.dm_words.proofs.smallest.plan.costs_of.Goals as goal
use Rattle.dm_words.proofs.smallest.plan.costs_of.Goals.{then-going-le249, else-going-le249}

-- The first lane alone, and the second alone.
abbrev first : List Bool
first = true ∷ false ∷ false ∷ false ∷ false ∷ false ∷ false ∷ false ∷ []

abbrev second : List Bool
second = false ∷ true ∷ false ∷ false ∷ false ∷ false ∷ false ∷ false ∷ []

pub returns-clause-small : goal.returns-clause-small
returns-clause-small c = grind (arith, nat_tests, then-going-le249, sel_l, second, replicate, first, else-going-le249)
