use Rattle.dm_layout.proofs.symbols.DealtWords.{blocks_make_words}
use Rattle.dm_layout.proofs.symbols.laws.blocks.blocks_make_codewords.Goals as goal

pub returns : goal.returns
returns c = blocks_make_words
