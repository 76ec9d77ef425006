use Rattle.dm_symbol.proofs.NormalContents.{equal_normal_contents}
use Rattle.dm_symbol.proofs.laws.contents.equal_normal_symbols_mean_equal_contents.Goals as goal

pub returns : goal.returns
returns c = equal_normal_contents
