use Rattle.dm_layout.proofs.symbols.BlockLemmas.{data_of_block}
use Rattle.dm_layout.proofs.symbols.laws.blocks.data_comes_first_in_a_block.Goals as goal

pub returns : goal.returns
returns c = data_of_block
