use Rattle.dm_words.proofs.LeastLanes.{least_place}
use Rattle.dm_words.proofs.smallest.plan.first_least.Goals as goal

pub returns : goal.returns
returns c =
    let p = least_place c.args.costs c.least-cost.result c.fits-costs.0 c.least-cost.ensures in
    record { least = c.least-cost.ensures; found = p.1; place = p.0; first = p.2 }
