use Rattle.dm_words.proofs.LeastLanes.{lesser_each}
use Rattle.dm_words.proofs.smallest.plan.lesser.Goals as goal

pub returns : goal.returns
returns c = lesser_each c.args.one c.args.other
