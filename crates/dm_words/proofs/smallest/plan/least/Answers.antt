use Rattle.dm_words.proofs.Names.{◌≡◌, ◌<◌, ◌%◌, ◌∙◌, ℕ, get_or, ap, arith, rules, least_of}
use Rattle.std.proofs.lemmas.Nat.{and_mask}
use Rattle.dm_words.proofs.LeastLanes.{least_small}
use Rattle.dm_words.proofs.smallest.plan.least.Goals as goal

pub returns : goal.returns
returns c =
    rw (and_mask (get_or c.lesser-one.result 0 0) 15) (
    let is : get_or c.lesser-one.result 0 0 ≡ least_of c.args.costs = search rules in
    let small : least_of c.args.costs < 32768 = least_small c.args.costs 32768 c.fits-costs.0 c.requires in
    let whole : least_of c.args.costs % 32768 ≡ least_of c.args.costs = omega (arith, small) in
    ap (λ (x : ℕ). x % 32768) is ∙ whole
    )
