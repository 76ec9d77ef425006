use Rattle.dm_words.proofs.Names.{◌+◌}
use Rattle.dm_words.proofs.CostLanes.{first_chosen}
use Rattle.dm_words.proofs.smallest.row.first_over.Goals as goal

pub returns : goal.returns
returns c first second bytes rest in_c40 in_text in_x12 in_edifact is h =
    first_chosen in_c40 in_text in_x12 in_edifact first second (1 + bytes) (1 + rest) c.args.sets _ _ _ is
    (c.first_over_one.ensures first second bytes rest h) (c.first_over_two.ensures first second bytes rest h)
    c.by_sets.ensures
