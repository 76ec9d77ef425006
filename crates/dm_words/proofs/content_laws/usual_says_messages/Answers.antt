use Rattle.dm_words.proofs.Extents.{usual_said_wide}
use Rattle.dm_words.proofs.MessageReadings.{usual_plain}
use Rattle.dm_words.proofs.content_laws.usual_says_messages.Goals as goal

pub returns : goal.returns
returns c = record { message = usual_plain; wide = usual_said_wide }
