use Rattle.dm_words.proofs.Names.{◌∙◌, arith}
use Rattle.dm_words.proofs.CostLanes.{sets_at}
use Rattle.dm_words.proofs.smallest.sets.sets_of.Goals as goal

pub returns : goal.returns
returns c = c.from.ensures ∙ sets_at c.args.byte (omega (arith, c.ranges.byte.fits))
