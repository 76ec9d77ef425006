use Rattle.dm_words.proofs.Names.{refl}
use Rattle.dm_words.proofs.message.MessageIn.clear.Goals as goal

pub returns : goal.returns
returns g c = refl
