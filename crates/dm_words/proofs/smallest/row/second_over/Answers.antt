use Rattle.dm_words.proofs.CostLanes.{second_chosen}
use Rattle.dm_words.proofs.smallest.row.second_over.Goals as goal

pub returns : goal.returns
returns c x e in_c40 in_text in_x12 in_edifact is h =
    second_chosen c.args.extent in_c40 in_text in_x12 in_edifact x e c.args.sets c.sets_read.result _ _ _ is
    c.sets_read.ensures (c.second_over_each.ensures x e h) c.no_second.ensures c.by_sets.ensures
