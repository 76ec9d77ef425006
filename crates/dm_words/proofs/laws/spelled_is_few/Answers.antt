use Rattle.dm_words.proofs.SaidBounds.{spelled_is_few}
use Rattle.dm_words.proofs.SpelledBounds.{some_spell_most}
use Rattle.dm_words.proofs.laws.spelled_is_few.Goals as goal

pub returns : goal.returns
returns c = record { most = spelled_is_few; met = some_spell_most }
