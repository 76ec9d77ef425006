use Rattle.dm_words.proofs.Names.{arith, nat_tests, length-take-le}
use Rattle.dm_words.proofs.SegmentWritten.{field_to_end, field_of_count}
use Rattle.dm_words.proofs.smallest.segment.push_field.Goals as goal
use Rattle.dm_words.proofs.smallest.segment.push_field.Goals.{else-count-gt-MOST_SHORT-via-else-count-gt-MOST_SHORT}

pub returns-then-held-count-clause-written : goal.returns-then-held-count-clause-written
returns-then-held-count-clause-written c =
    field_to_end _ _ c.args.held.now _ _ (length-take-le c.args.held.now c.args.words.now (omega arith)) (omega arith)
    c.push_value.ensures.added

pub returns-else-count-gt-MOST_SHORT-clause-written : goal.returns-else-count-gt-MOST_SHORT-clause-written
returns-else-count-gt-MOST_SHORT-clause-written c =
    grind (arith, nat_tests, field_of_count, length-take-le, else-count-gt-MOST_SHORT-via-else-count-gt-MOST_SHORT)
