use Rattle.dm_words.proofs.Names.{arith, nat_tests}
use Rattle.dm_words.proofs.MarkedCosts.{each_within, between}
use Rattle.dm_words.proofs.smallest.contents.are_between.Goals as goal
use Rattle.dm_words.proofs.smallest.contents.are_between.Goals.{then-place-least-via-then-place-least}
use Rattle.dm_words.proofs.smallest.contents.are_between.Goals.{then-place-least-via-else-place-least+then-most-place}

pub returns-then-place-least-clause-no : goal.returns-then-place-least-clause-no
returns-then-place-least-clause-no c =
    grind (
      arith,
      nat_tests,
      each_within,
      then-place-least-via-then-place-least,
      then-place-least-via-else-place-least+then-most-place,
    )

pub returns-clause-yes : goal.returns-clause-yes
returns-clause-yes c = λ yes.
    between 0 c.args.least c.args.most c.requires.in_order.0 c.args.marks.now (record { place = 0; number = 0 })
    c.requires.in_order.1 c.requires.some (λ i lt. c.loop-mark.invariant i (omega (arith, lt, c.loop-mark-test.false)))
