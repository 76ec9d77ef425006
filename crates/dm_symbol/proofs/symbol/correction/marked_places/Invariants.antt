use Rattle.dm_symbol.proofs.Names.{◌≡◌, map, take, is_mark}
use Rattle.dm_symbol.proofs.symbol.correction.marked_places.Given as goal

abbrev pub invariant-loop-i : goal.invariant-loop-i
invariant-loop-i l = l.erased.items ≡ map is_mark (take l.i l.words.items)
