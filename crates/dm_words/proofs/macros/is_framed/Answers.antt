use Rattle.dm_words.proofs.Names.{arith, take_rest, macro_header, nat_tests}
use Rattle.dm_words.proofs.Frames.{is_framed, frame_is, fnc1_inside}
use Rattle.dm_words.proofs.macros.is_framed.Goals as goal

pub returns-clause-yes : goal.returns-clause-yes
returns-clause-yes c = grind (arith, nat_tests, macro_header, is_framed, take_rest)

pub returns-clause-no : goal.returns-clause-no
returns-clause-no c = grind (arith, nat_tests, frame_is, take_rest)

pub returns-clause-no_fnc1 : goal.returns-clause-no_fnc1
returns-clause-no_fnc1 c = λ t b.
    (let yes = c.begin_with_fnc1.ensures.no b in let no = c.if-begin_with_fnc1.false in cc)

pub returns-then-begin_with_fnc1-clause-no : goal.returns-then-begin_with_fnc1-clause-no
returns-then-begin_with_fnc1-clause-no c =
    λ text e none. absurd (none (fnc1_inside _ _ text _ e (c.begin_with_fnc1.ensures.yes c.if-begin_with_fnc1.true)))
