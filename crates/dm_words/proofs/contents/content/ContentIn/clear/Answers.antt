use Rattle.dm_words.proofs.Names.{refl}
use Rattle.dm_words.proofs.contents.content.ContentIn.clear.Goals as goal

pub returns : goal.returns
returns g c = refl
