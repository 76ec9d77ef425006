use Rattle.dm_words.proofs.Names.{arith}
use Rattle.dm_words.proofs.SegmentLoops.{nothing_left, to_the_end_found, past_short_found, short_found, no_second_found}
use Rattle.dm_words.proofs.SegmentLoops.{wrong_second_found, past_long_found, long_found}
use Rattle.dm_words.proofs.base256.segment_part.Goals as goal
use Rattle.dm_words.proofs.base256.segment_part.Goals.{then-second-gt-MOST_SHORT-via-then-second-gt-MOST_SHORT}

pub returns-then-left-eq0-clause-taken : goal.returns-then-left-eq0-clause-taken
returns-then-left-eq0-clause-taken c = nothing_left c.args.words.now c.args.at c.if-left-eq0.true

pub returns-then-first-eq0-clause-taken : goal.returns-then-first-eq0-clause-taken
returns-then-first-eq0-clause-taken c = (
  _,
  to_the_end_found c.args.words.now c.args.at c.plain_value-first.result (omega arith)
      c.plain_value-first.ensures c.if-first-eq0.true,
  c.push_bytes.ensures.added,
)

pub returns-then-left-first-clause-taken : goal.returns-then-left-first-clause-taken
returns-then-left-first-clause-taken c =
    past_short_found c.args.words.now c.args.at c.plain_value-first.result (omega arith) c.plain_value-first.ensures
    c.if-first-le-MOST_SHORT.true (omega arith)

pub returns-then-first-le-MOST_SHORT-clause-taken : goal.returns-then-first-le-MOST_SHORT-clause-taken
returns-then-first-le-MOST_SHORT-clause-taken c = (
  _,
  short_found c.args.words.now c.args.at c.plain_value-first.result (omega arith) c.plain_value-first.ensures
      (omega arith) c.if-first-le-MOST_SHORT.true (omega arith),
  c.push_bytes-then-first-le-MOST_SHORT.ensures.added,
)

pub returns-then-left-eq1-clause-taken : goal.returns-then-left-eq1-clause-taken
returns-then-left-eq1-clause-taken c =
    no_second_found c.args.words.now c.args.at c.plain_value-first.result (omega arith) c.plain_value-first.ensures
    (omega arith) c.if-left-eq1.true

pub returns-then-second-gt-MOST_SHORT-clause-taken : goal.returns-then-second-gt-MOST_SHORT-clause-taken
returns-then-second-gt-MOST_SHORT-clause-taken c =
    elim c.then-second-gt-MOST_SHORT.branch [
      | then-second-gt-MOST_SHORT-via-then-second-gt-MOST_SHORT w ↦ wrong_second_found c.args.words.now c.args.at
          c.plain_value-first.result (omega arith) c.plain_value-first.ensures (omega arith)
          c.plain_value-second.result (omega arith) c.plain_value-second.ensures (omega arith)
      | goal.then-second-gt-MOST_SHORT-via-else-second-gt-MOST_SHORT+then-left-count w ↦
          past_long_found c.args.words.now
          c.args.at c.plain_value-first.result (omega arith) c.plain_value-first.ensures (omega arith)
          c.plain_value-second.result (omega arith) c.plain_value-second.ensures (omega arith) (omega arith)
    ]

pub returns-clause-taken : goal.returns-clause-taken
returns-clause-taken c = (
  _,
  long_found c.args.words.now c.args.at c.plain_value-first.result (omega arith) c.plain_value-first.ensures
      (omega arith) c.plain_value-second.result (omega arith) c.plain_value-second.ensures (omega arith) (omega arith),
  c.push_bytes-2.ensures.added,
)
