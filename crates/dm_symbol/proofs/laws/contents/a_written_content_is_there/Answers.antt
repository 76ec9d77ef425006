use Rattle.dm_symbol.proofs.WrittenContents.{written_content_is_there}
use Rattle.dm_symbol.proofs.laws.contents.a_written_content_is_there.Goals as goal

pub returns : goal.returns
returns c = written_content_is_there
