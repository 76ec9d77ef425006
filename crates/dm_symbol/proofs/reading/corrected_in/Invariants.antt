use Rattle.dm_symbol.proofs.Names.{◌≡◌, map, take}
use Rattle.dm_symbol.proofs.reading.corrected_in.Given as goal

abbrev pub invariant-loop-block : goal.invariant-loop-block
invariant-loop-block l = l.counts.items ≡ map (λ block. block.corrected) (take l.block-index l.blocks)
