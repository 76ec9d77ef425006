use Rattle.std.proofs.Common.{◌≡◌, ◌+◌, ◌-◌, ◌≤◌, length, arith, subst, inl, inr}
use Rattle.std.proofs.lemmas.Bool.{cases_eq}
use Rattle.gf301.specs.Polynomial.{coefficient}
use Rattle.dm_code.specs.inner.LinearSystem.{Solves, Unsolvable}
use Rattle.dm_code.proofs.Connections.{Connects, NoneBelow, none_connects, first_is_least}
use Rattle.dm_code.proofs.Systems.{IsSystem, unsolvable_none, solved_connects}
use Rattle.dm_code.proofs.elimination.least_key.Goals as goal

pub loop-degree-preserved : goal.loop-degree-preserved
loop-degree-preserved c =
    let s = c.args.s.now in
    let e = c.loop-degree.degree in
    let rows = c.rows_of-rows.result.items in
    let small : e ≤ 34 = omega arith in
    let n : 34 - (34 - e) ≡ e = omega arith in
    let y : IsSystem s e rows = record { long = c.rows_of-rows.ensures.long; each = c.rows_of-rows.ensures.each } in
    let u : Unsolvable rows (34 - e) e =
    subst (λ t. Unsolvable t (34 - e) e) c.deref.ensures.0
    (subst (λ m. Unsolvable c.deref.result.now (34 - e) m) n c.in_default.ensures.none) in
    λ d h g k. elim (cases_eq d e) [
      | inl q ↦ unsolvable_none s e rows small y u g (subst (λ m. Connects g (coefficient s) m (length s)) q k)
      | inr q ↦ c.loop-degree.invariant d (omega arith) g k
    ]

pub returns-in-Some-clause-least : goal.returns-in-Some-clause-least
returns-in-Some-clause-least c =
    let s = c.args.s.now in
    let e = c.loop-degree.degree in
    let rows = c.rows_of-rows.result.items in
    let small : e ≤ 34 = omega arith in
    let n : 34 - (34 - e) ≡ e = omega arith in
    let y : IsSystem s e rows = record { long = c.rows_of-rows.ensures.long; each = c.rows_of-rows.ensures.each } in
    let v = c.in-Some.solution in
    let u : Solves rows (34 - e) e (coefficient v) =
    subst (λ t. Solves t (34 - e) e (coefficient v)) c.deref.ensures.0
    (subst (λ m. Solves c.deref.result.now (34 - e) m (coefficient v)) n c.in-Some.ensures.solution) in
    let key = c.key_of in
    let l = key.result.locator.items in
    let k : Connects (coefficient l) (coefficient s) e (length s) =
    solved_connects s e rows v l small y u key.ensures.locator_long key.ensures.locator in
    first_is_least s l key.result.evaluator.items c.args.t e (omega arith) c.loop-degree.invariant k
    key.ensures.locator_bytes key.ensures.evaluator_bytes key.ensures.evaluator_long key.ensures.evaluator

pub returns-in-Some-clause-none : goal.returns-in-Some-clause-none
returns-in-Some-clause-none c = tt

pub returns-clause-none : goal.returns-clause-none
returns-clause-none c =
    let s = c.args.s.now in
    none_connects s c.args.t (subst (λ m. NoneBelow s m) (let q : c.loop-degree.degree ≡ c.args.t + 1 = omega arith in
    q) c.loop-degree.invariant)
