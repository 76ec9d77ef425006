use Rattle.dm_layout.proofs.Names.{◌≡◌, ◌+◌, ◌*◌, map, get_or, range_with_len}
use Rattle.dm_layout.proofs.symbols.blocks.block.Given as goal

abbrev pub invariant-loop-i : goal.invariant-loop-i
invariant-loop-i l = l.block.items ≡ map (λ k. get_or l.words (k * l.blocks + l.b) 0) (range_with_len 0 l.i)
