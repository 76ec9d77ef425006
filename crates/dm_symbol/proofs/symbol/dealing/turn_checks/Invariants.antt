use Rattle.dm_symbol.proofs.Names.{◌≡◌, get_or, map, range_with_len, turned_place}
use Rattle.dm_symbol.proofs.symbol.dealing.turn_checks.Given as goal

abbrev pub invariant-loop-i : goal.invariant-loop-i
invariant-loop-i l = l.checks.items ≡ map (λ i. get_or l.words (turned_place l.shift i) 0) (range_with_len 0 l.i)
