use Rattle.dm_words.proofs.Names.{◌≡◌, ◌+◌, ◌-◌, length, arith, refl, true}
use Rattle.dm_words.proofs.MarkedCosts.{framed_length}
use Rattle.dm_words.proofs.smallest.contents.macro_between.Goals as goal

pub returns-in-None-clause-none : goal.returns-in-None-clause-none
returns-in-None-clause-none c = λ word digit text k none e no_fnc1 marks.
    c.in-None.ensures.none word digit text refl k e no_fnc1

pub returns-else-are_between-clause-none : goal.returns-else-are_between-clause-none
returns-else-are_between-clause-none c = λ word digit text k none e no_fnc1 marks.
    let last : 7 + length text ≡ length c.args.items.now - 2 = omega (arith, framed_length _ text digit e) in
    let yes : c.are_between.result ≡ true = c.are_between.ensures.no (rw last at marks) in
    let no = c.if-are_between.false in
    cc
