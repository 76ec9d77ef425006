use Rattle.dm_words.proofs.Names.{arith, marks_number, nat_tests}
use Rattle.dm_words.proofs.Fnc1Places.{identifier_of, no_marks, some_marks}
use Rattle.dm_words.proofs.contents.symbology.symbology_number.Goals as goal

pub returns-then-is_empty-clause-identifier : goal.returns-then-is_empty-clause-identifier
returns-then-is_empty-clause-identifier g c = grind (arith, nat_tests, no_marks, marks_number, identifier_of)

pub returns-else-is_empty-clause-identifier : goal.returns-else-is_empty-clause-identifier
returns-else-is_empty-clause-identifier g c = grind (arith, nat_tests, some_marks, marks_number, identifier_of)
