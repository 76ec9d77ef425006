use Rattle.dm_symbol.proofs.Names.{◌≡◌, Some, map, take}
use Rattle.dm_symbol.proofs.symbol.inspection.show_blocks.Given as goal

abbrev pub invariant-loop-block : goal.invariant-loop-block
invariant-loop-block l = l.shown.items ≡ map (λ block. Some block) (take l.block-index l.blocks)
