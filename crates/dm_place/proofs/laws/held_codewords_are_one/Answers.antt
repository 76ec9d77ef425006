use Rattle.dm_place.proofs.HeldWords.{one_list}
use Rattle.dm_place.proofs.laws.held_codewords_are_one.Goals as goal

pub returns : goal.returns
returns c = one_list
