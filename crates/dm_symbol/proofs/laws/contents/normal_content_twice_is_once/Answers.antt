use Rattle.dm_symbol.proofs.NormalContents.{normal_content_twice}
use Rattle.dm_symbol.proofs.laws.contents.normal_content_twice_is_once.Goals as goal

pub returns : goal.returns
returns c = normal_content_twice
