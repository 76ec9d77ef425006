use Rattle.std.proofs.Common.{arith, subst, ◌∙◌}
use Rattle.dm_place.specs.declared.shapes.Part.{Part}
use Rattle.dm_place.specs.inner.Walking.{PartIsSafe}
use Rattle.dm_place.proofs.Stepping.{corner_even, corner_odd, even_step, even_end, odd_step, odd_end, next_sum}
use Rattle.dm_place.proofs.shapes.Steps.step.Goals as goal

pub returns-then-self-eq4-clause-left : goal.returns-then-self-eq4-clause-left
returns-then-self-eq4-clause-left c =
    let s = c.args.self.now in
    corner_even s.rows s.columns s.sum s.index _ s.part _ c.in-Corner.is c.requires.more
    c.corner-found.ensures.value (c.if-self-eq4.true) c.first_even_column-self.ensures.before

pub returns-else-self-eq4-clause-left : goal.returns-else-self-eq4-clause-left
returns-else-self-eq4-clause-left c =
    let s = c.args.self.now in
    let safe = subst (λ (p : Part). PartIsSafe s.rows s.columns s.sum p s.index) c.in-Corner.is c.requires.safe.part in
    let other = c.if-self-eq4.false in
    corner_odd s.rows s.columns s.sum s.index _ s.part _ c.in-Corner.is c.requires.more
    c.corner-found.ensures.value (omega (arith, safe.1, other)) c.first_odd_row-self.ensures.before

pub returns-then-is_past-clause-left : goal.returns-then-is_past-clause-left
returns-then-is_past-clause-left c =
    let s = c.args.self.now in
    let safe = subst (λ (p : Part). PartIsSafe s.rows s.columns s.sum p s.index) c.in-Even.is c.requires.safe.part in
    even_end s.rows s.columns s.sum s.index s.part c.in-Even.is (c.is_past.ensures.past c.if-is_past.true)
    ∙ next_sum s.rows s.columns s.sum c.requires.safe.sides.rows_low (omega (arith, safe.3))

pub returns-else-is_past-clause-left : goal.returns-else-is_past-clause-left
returns-else-is_past-clause-left c =
    let s = c.args.self.now in
    even_step s.rows s.columns s.sum s.index s.part _ c.in-Even.is (c.is_past.ensures.inside c.if-is_past.false)
    (grind arith) (grind arith) c.in_even_row.ensures.value

pub returns-then-is_past-2-clause-left : goal.returns-then-is_past-2-clause-left
returns-then-is_past-2-clause-left c =
    let s = c.args.self.now in
    let safe = subst (λ (p : Part). PartIsSafe s.rows s.columns s.sum p s.index) c.in-Odd.is c.requires.safe.part in
    odd_end s.rows s.columns s.sum s.index s.part c.in-Odd.is (c.is_past-in-Odd.ensures.past c.if-is_past-2.true)
    ∙ next_sum s.rows s.columns s.sum c.requires.safe.sides.rows_low (omega (arith, safe.3))

pub returns-else-is_past-2-clause-left : goal.returns-else-is_past-2-clause-left
returns-else-is_past-2-clause-left c =
    let s = c.args.self.now in
    odd_step s.rows s.columns s.sum s.index s.part _ c.in-Odd.is (c.is_past-in-Odd.ensures.inside c.if-is_past-2.false)
    (grind arith) c.in_odd_row.ensures.value
