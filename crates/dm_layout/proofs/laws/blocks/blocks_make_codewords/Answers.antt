use Rattle.dm_layout.proofs.BlockLemmas.{blocks_make_words}
use Rattle.dm_layout.proofs.laws.blocks.blocks_make_codewords.Goals as goal

pub returns : goal.returns
returns c = blocks_make_words
