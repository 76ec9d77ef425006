use Rattle.dm_words.proofs.CostLanes.{second_byte}
use Rattle.dm_words.proofs.smallest.row.second_over_byte.Goals as goal

pub returns : goal.returns
returns c x e h =
    second_byte c.args.extent c.args.byte x e c.second_over.result
    (c.second_over.ensures x e _ _ _ _ c.sets_of.ensures h)
