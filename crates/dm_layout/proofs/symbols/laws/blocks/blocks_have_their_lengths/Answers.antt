use Rattle.dm_layout.proofs.symbols.BlockLemmas.{has_lengths}
use Rattle.dm_layout.proofs.symbols.laws.blocks.blocks_have_their_lengths.Goals as goal

pub returns : goal.returns
returns c = has_lengths
