use Rattle.dm_place.proofs.HeldWords.{some_list}
use Rattle.dm_place.proofs.laws.each_matrix_holds_codewords.Goals as goal

pub returns : goal.returns
returns c = some_list
