use Rattle.dm_layout.proofs.symbols.BlockLemmas.{same_data_by_blocks}
use Rattle.dm_layout.proofs.symbols.laws.blocks.blocks_tell_the_data.Goals as goal

pub returns : goal.returns
returns c = same_data_by_blocks
