use Rattle.dm_words.proofs.Names.{refl, arith, nat_tests}
use Rattle.dm_words.proofs.CostLanes.{row_next, row_second, next_first, over_fnc1, over_byte}
use Rattle.dm_words.proofs.smallest.row.going_over.Goals as goal

pub returns-in-Fnc1 : goal.returns-in-Fnc1
returns-in-Fnc1 c r w h = grind (arith, nat_tests, over_fnc1, next_first, row_next)

pub returns-in-Byte : goal.returns-in-Byte
returns-in-Byte c r w h =
    over_byte c.args.extent _ c.in-Byte.byte r _ _ c.in-Byte.is h (c.first_over_byte.ensures _ _ _ _ (row_next r _ w h))
    (c.second_over_byte.ensures _ _ (row_second r _ w h)) refl
