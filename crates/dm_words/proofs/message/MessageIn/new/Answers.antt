use Rattle.dm_words.proofs.Names.{refl}
use Rattle.dm_words.proofs.message.MessageIn.new.Goals as goal

pub returns : goal.returns
returns g c = refl
