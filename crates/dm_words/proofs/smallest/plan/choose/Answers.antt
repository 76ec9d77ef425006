use Rattle.dm_words.proofs.Names.{sym, ℕ, List, get_or, ◌∙◌, ap, arith, least_of, nat_tests}
use Rattle.dm_words.proofs.CostLanes.{cost_at, first_begin, second_begin, lane_costs}
use Rattle.dm_words.proofs.smallest.plan.choose.Goals as goal

pub returns-clause-cost : goal.returns-clause-cost
returns-clause-cost c r g row small going =
    c.first_least.ensures.least ∙ ap least_of (c.costs_of.ensures.costs r g row small going)

pub returns-clause-begins : goal.returns-clause-begins
returns-clause-begins c r g row small going =
    sym (cost_at c.args.item c.args.pair r g c.first_least.result.begins c.first_least.ensures.place)
    ∙ ap (λ (l : List ℕ). get_or l c.first_least.result.begins 0) (sym (c.costs_of.ensures.costs r g row small going))
    ∙ c.first_least.ensures.found

pub returns-clause-pair : goal.returns-clause-pair
returns-clause-pair c r g row small going is = grind (arith, nat_tests, first_begin, lane_costs)

pub returns-clause-one : goal.returns-clause-one
returns-clause-one c r g row small going is = grind (arith, nat_tests, second_begin, lane_costs)
