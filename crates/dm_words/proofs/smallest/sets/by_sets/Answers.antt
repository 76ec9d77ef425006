use Rattle.dm_words.proofs.Names.{◌≡◌, length, rules}
use Rattle.dm_words.proofs.CostLanes.{by_sets_is}
use Rattle.dm_words.proofs.smallest.sets.by_sets.Goals as goal

pub returns : goal.returns
returns c =
    let long : length c.args.bits ≡ 8 = search rules in
    by_sets_is c.args.sets c.args.bits c.args.inside c.args.outside long
