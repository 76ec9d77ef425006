use Rattle.dm_words.proofs.Names.{arith}
use Rattle.dm_words.proofs.smallest.smallest_words_to.Goals as goal

pub returns-then-marks-le-FEW_MARKS-clause-smallest : goal.returns-then-marks-le-FEW_MARKS-clause-smallest
returns-then-marks-le-FEW_MARKS-clause-smallest c = c.smallest_in.ensures.smallest

pub smallest_in-requires-clause-room : goal.smallest_in-requires-clause-room
smallest_in-requires-clause-room c = omega arith

pub smallest_in-requires-clause-steps : goal.smallest_in-requires-clause-steps
smallest_in-requires-clause-steps c = omega arith
