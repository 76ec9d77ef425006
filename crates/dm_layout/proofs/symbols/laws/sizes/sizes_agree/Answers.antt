use Rattle.dm_layout.proofs.symbols.TableEntries.{all_agree}
use Rattle.dm_layout.proofs.symbols.laws.sizes.sizes_agree.Goals as goal

pub returns : goal.returns
returns c = all_agree
