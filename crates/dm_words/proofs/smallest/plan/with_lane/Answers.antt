use Rattle.dm_words.proofs.Names.{◌≡◌, length, rules}
use Rattle.dm_words.proofs.CostLanes.{with_lane_is}
use Rattle.dm_words.proofs.smallest.plan.with_lane.Goals as goal

pub returns : goal.returns
returns c =
    let long : length c.args.lane ≡ 8 = search rules in
    with_lane_is c.args.lane c.args.lanes c.args.number long
