use Rattle.dm_words.proofs.Names.{first_spelling, arith, nat_tests}
use Rattle.dm_words.proofs.RunLoops.{small_at}
use Rattle.dm_words.proofs.c40.value.spelling_at.Goals as goal

pub basic_meaning-requires : goal.basic_meaning-requires
basic_meaning-requires c = small_at _ _ _ _ c.requires.small c.in-Some.ensures

pub returns-in_default-number_at : goal.returns-in_default-number_at
returns-in_default-number_at c = grind (arith, nat_tests, first_spelling)
