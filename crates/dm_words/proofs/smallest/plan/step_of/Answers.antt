use Rattle.dm_words.proofs.CostLanes.{step_kept}
use Rattle.dm_words.proofs.smallest.plan.step_of.Goals as goal

pub returns : goal.returns
returns c g h =
    step_kept c.args.cost _ c.first_ends.result c.second_ends.result c.args.going.now.first c.args.going.now.second g
    c.first_ends.ensures c.second_ends.ensures h.first h.others c.ended.ensures c.ended-2.ensures
