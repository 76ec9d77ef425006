use Rattle.dm_words.proofs.ContentResults.{one_content, one_result}
use Rattle.dm_words.proofs.content_laws.one_content.Goals as goal

pub returns : goal.returns
returns c = record { content = one_content; message = one_result }
