use Rattle.dm_words.proofs.DesignationLaws.{one_list, numbers_of_marks}
use Rattle.dm_words.proofs.content_laws.one_list_of_designators.Goals as goal

pub returns-clause-list : goal.returns-clause-list
returns-clause-list c = λ words found other are are_too. one_list words found other are are_too

pub returns-clause-numbers : goal.returns-clause-numbers
returns-clause-numbers c = λ words l found spells are. numbers_of_marks words l found spells are
