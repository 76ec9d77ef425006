use Rattle.dm_words.proofs.LeastLanes.{compared_fits, compared_bit}
use Rattle.dm_words.proofs.smallest.plan.ended.Goals as goal

pub overflow_cast-result : goal.overflow_cast-result
overflow_cast-result c = record { fits = compared_fits c.args.ends c.args.going c.fits-ends.0 c.fits-going.0 }

pub returns : goal.returns
returns c = compared_bit c.args.ends c.args.going c.fits-ends.0 c.fits-going.0
