use Rattle.dm_words.proofs.Names.{values_before}
use Rattle.dm_words.proofs.CostLanes.{first_low, first_high, next_first, raised_next}
use Rattle.dm_words.proofs.smallest.row.first_over_byte.Goals as goal

pub returns-then-byte-lt128 : goal.returns-then-byte-lt128
returns-then-byte-lt128 c first second bytes rest h =
    first_low c.args.byte first second _ _ _ c.if-byte-lt128.true
    (c.first_over.ensures first second bytes rest _ _ _ _ c.sets_of.ensures (next_first _ _ _ _ _ h))

pub returns : goal.returns
returns c first second bytes rest h =
    first_high c.args.byte first second _ _ _ c.if-byte-lt128.false (c.first_over-2.ensures (values_before 2 first)
    (values_before 2 second) bytes rest _ _ _ _ c.sets_of-2.ensures (raised_next _ _ _ _ _ c.first_raised.result h
    (c.first_raised.ensures first second bytes rest (next_first _ _ _ _ _ h))))
