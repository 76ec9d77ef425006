use Rattle.dm_words.proofs.SaidContents.{said_is_content}
use Rattle.dm_words.proofs.content_laws.said_is_content.Goals as goal

pub returns : goal.returns
returns c = said_is_content
