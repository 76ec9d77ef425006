use Rattle.std.proofs.Common.{◌-◌, ◌<◌, ◌≢◌, length, IfNone, sym, ap, ◌∙◌, subst, arith, slice_set}
use Rattle.std.proofs.lemmas.List.{get_or-set_same, get_or-set_other}
use Rattle.gf301.specs.Field.{◌⊗◌}
use Rattle.gf301.specs.Polynomial.{coefficient}
use Rattle.dm_code.specs.inner.LinearSystem.{row, Unsolvable}
use Rattle.dm_code.proofs.LinearLaws.{Reduced, column_down, column_up, free_some, free_none}
use Rattle.dm_code.proofs.system.+solve.Goals as goal

pub returns-then-first-eq-MOST_ERRORS-clause-none : goal.returns-then-first-eq-MOST_ERRORS-clause-none
returns-then-first-eq-MOST_ERRORS-clause-none t c =
    subst (λ k. IfNone c.last_unknown.result (Unsolvable c.args.rows.now k (34 - k)))
    (sym c.if-first-eq-MOST_ERRORS.true) c.last_unknown.ensures.none

pub returns-in_err-solution-in-Some-clause-none : goal.returns-in_err-solution-in-Some-clause-none
returns-in_err-solution-in-Some-clause-none t c =
    let rows = c.args.rows.now in
    let k = c.args.first in
    let r : Reduced rows c.without-less.result.items (row rows c.in-Some.p) c.inverse-inverse.result.0 k =
    record {
      one = c.inverse-inverse.ensures.product;
      long = c.without-less.ensures.long;
      each =
          c.without-less.ensures.each;
    } in
    subst (λ o. IfNone o (Unsolvable rows k (34 - k))) (sym c.from_residual.ensures)
    (λ v s. c.in_err-solution-in-Some.ensures.none v
    (column_down rows c.without-less.result.items c.deref.result.now c.in-Some.p c.inverse-inverse.result.0 k v
    (omega arith) c.in-Some.ensures.0 r c.deref.ensures.0 s))

pub returns-in-None-clause-solution : goal.returns-in-None-clause-solution
returns-in-None-clause-solution t c =
    free_some c.args.rows.now c.args.first c.solve.result (omega arith) c.in-None.ensures c.solve.ensures.solution

pub returns-in-None-clause-none : goal.returns-in-None-clause-none
returns-in-None-clause-none t c =
    free_none c.args.rows.now c.args.first c.solve.result (omega arith) c.in-None.ensures c.solve.ensures.none

pub returns-in_ok-solution-in-Some-clause-solution : goal.returns-in_ok-solution-in-Some-clause-solution
returns-in_ok-solution-in-Some-clause-solution t c =
    let rows = c.args.rows.now in
    let k = c.args.first in
    let v = c.in_ok-solution-in-Some.solution in
    let x = c.mul.result.0 in
    let r : Reduced rows c.without-less.result.items (row rows c.in-Some.p) c.inverse-inverse.result.0 k =
    record {
      one = c.inverse-inverse.ensures.product;
      long = c.without-less.ensures.long;
      each =
          c.without-less.ensures.each;
    } in
    column_up rows c.without-less.result.items c.deref.result.now c.in-Some.p c.inverse-inverse.result.0 k
    (coefficient v) (coefficient (slice_set v k x)) (omega arith) c.in-Some.ensures.0 r c.deref.ensures.0
    c.in_ok-solution-in-Some.ensures.solution
    (λ j h. let ne : j ≢ k = omega arith in get_or-set_other v k j x 0 ne)
    (let h : k < length v = omega arith in get_or-set_same v k x 0 h ∙ c.mul.ensures
    ∙ ap (λ z. c.inverse-inverse.result.0 ⊗ z) c.dot_from.ensures)
