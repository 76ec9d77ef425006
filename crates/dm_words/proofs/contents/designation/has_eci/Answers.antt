use Rattle.dm_words.proofs.Names.{arith}
use Rattle.dm_words.proofs.DesignationLoops.{none_without_eci}
use Rattle.dm_words.proofs.contents.designation.has_eci.Goals as goal

pub returns-clause-none : goal.returns-clause-none
returns-clause-none c is_false =
    none_without_eci c.args.words.now (λ i. omega (arith, c.type_inv.words i))
    (λ i lt. c.loop-word.invariant.none is_false i (omega (arith, lt, c.loop-word-test.false)))

pub returns-clause-no : goal.returns-clause-no
returns-clause-no c is_false i lt =
    c.loop-word.invariant.none is_false i (omega (arith, lt, c.loop-word-test.false))
