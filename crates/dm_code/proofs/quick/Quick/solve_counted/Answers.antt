use Rattle.std.proofs.Common.{◌≡◌, ◌+◌, ◌-◌, ◌*◌, ◌<◌, ◌≤◌, length, refl, sym, ap, subst, ◌∙◌, arith, inl, inr}
use Rattle.std.proofs.lemmas.Bool.{cases_lt}
use Rattle.gf301.specs.Polynomial.{coefficient, convolution}
use Rattle.gf301.specs.declared.meter.Meter.{Meter}
use Rattle.dm_code.specs.declared.quick.Search.{Search}
use Rattle.dm_code.proofs.Bytes.{bytes_places}
use Rattle.dm_code.proofs.BerlekampMassey.{IsCorrected, restated, coefficients_taken, search_start, search_listed}
use Rattle.dm_code.proofs.BerlekampMassey.{search_taken, taken_product, search_kept, search_same, search_grown}
use Rattle.dm_code.proofs.BerlekampMassey.{search_refuses, search_results, search_exact}
use Rattle.dm_code.proofs.Counts.{step_products, all_products}
use Rattle.std.proofs.lemmas.Grind.{common_steps}
use Rattle.dm_code.proofs.quick.Quick.solve_counted.Goals as goal
use Rattle.dm_code.proofs.quick.Quick.solve_counted.Goals.{then-discrepancy-ne0+else-degree-t, else-discrepancy-ne0}

pub loop-n-init : goal.loop-n-init
loop-n-init c =
    let e = c.new-search.ensures in
    record {
      search =
          restated (search_start c.args.s.now c.new-search.result.locator c.new-search.result.earlier e.locator
          e.earlier) refl refl (sym e.inverse) (sym e.gap) (sym e.degree) refl;
      within = omega (arith, e.degree);
      products = omega (arith, c.default-meter.ensures.0);
      inversions = omega (arith, c.default-meter.ensures.1);
      each_product = omega arith;
      some_inversion = λ h. absurd (omega (arith, e.degree));
    }

pub returns-then-degree-t-clause-none : goal.returns-then-degree-t-clause-none
returns-then-degree-t-clause-none c =
    search_refuses c.loop-n.invariant.search
    c.product_at-discrepancy.ensures.coefficient
    (omega (arith, c.if-discrepancy-ne0.true)) (omega arith)
    (omega (arith, c.max-degree.ensures, c.if-degree-t.true, c.loop-n.invariant.within))

pub loop-n-preserved : goal.loop-n-preserved
loop-n-preserved c =
    let s = c.args.s.now in
    let n = c.loop-n.n in
    let old = c.loop-n.search in
    let l = old.locator in
    let d = old.degree in
    let new = c.if-discrepancy-ne0.search in
    let h = c.loop-n.invariant.search in
    let v : c.product_at-discrepancy.result.0 ≡ convolution (coefficient l) (coefficient s) n =
    c.product_at-discrepancy.ensures.coefficient in
    elim c.if-discrepancy-ne0.branch [
      | then-discrepancy-ne0+else-degree-t w ↦
          let r = w.adjust.ensures in
          let m = w.adjust.new.self in
          let k : IsCorrected l old.earlier m.locator c.product_at-discrepancy.result.0 old.inverse.0 old.gap =
          record { low = r.low; high = r.high } in
          let u : m ≡ new = sym w.search-is in
          let next = w.max-degree.ensures in
          record {
            search = elim (cases_lt n (d + d)) [
              | inl b ↦
                  let o = r.kept (omega (arith, next)) in
                  restated (search_same h v k b) (ap (λ (q : Search). q.locator) u) (sym o.0
                  ∙ ap (λ (q : Search). q.earlier) u)
                  (sym o.1 ∙ ap (λ (q : Search). q.inverse.0) u) (omega (arith, o.2, ap (λ (q : Search). q.gap) u))
                  (omega (arith, r.degree, next, ap (λ (q : Search). q.degree) u)) (omega arith)
              | inr b ↦
                  let o = r.grown (omega (arith, next)) in
                  restated
                  (search_listed (search_grown {c =
                  n + 1 - d} h v k (omega (arith, w.if-discrepancy-ne0.true)) o.1 (omega arith) (omega arith))
                  (λ i. refl) (coefficients_taken l 48
                  (λ i q. h.connects.degree i
                  (omega (arith, c.loop-n.invariant.within, c.requires.few, c.requires.half)))))
                  (ap (λ (q : Search). q.locator) u) (sym o.0 ∙ ap (λ (q : Search). q.earlier) u)
                  (ap (λ (q : Search). q.inverse.0) u) (omega (arith, o.2, ap (λ (q : Search). q.gap) u))
                  (omega (arith, r.degree, next, ap (λ (q : Search). q.degree) u)) (omega arith)
            ];
            within = omega (arith, r.degree, w.if-degree-t.false, ap (λ (q : Search). q.degree) u);
            products =
                step_products n c.args.t c.loop-n.meter.products c.if-discrepancy-ne0.meter.products
                c.loop-n.invariant.products
                (omega (
                  arith,
                  r.products,
                  c.product_at-discrepancy.ensures.products,
                  c.loop-n.invariant.within,
                  w.if-degree-t.false,
                  ap (λ (q : Meter). q.products) w.meter-is,
                ));
            inversions = elim (cases_lt n (d + d)) [
              | inl b ↦
                  let o = r.kept (omega (arith, next)) in
                  omega (
                    arith,
                    o.3,
                    c.product_at-discrepancy.ensures.inversions,
                    c.loop-n.invariant.inversions,
                    ap (λ (q : Meter). q.inversions) w.meter-is,
                  )
              | inr b ↦
                  let o = r.grown (omega (arith, next)) in
                  omega (
                    arith,
                    o.3,
                    c.product_at-discrepancy.ensures.inversions,
                    c.loop-n.invariant.inversions,
                    ap (λ (q : Meter). q.inversions) w.meter-is,
                  )
            ];
            each_product =
                omega (
                  arith,
                  r.products,
                  c.product_at-discrepancy.ensures.products,
                  c.loop-n.invariant.each_product,
                  ap (λ (q : Meter). q.products) w.meter-is,
                  h.room,
                  next,
                );
            some_inversion = λ g. elim (cases_lt n (d + d)) [
              | inl b ↦
                  let o = r.kept (omega (arith, next)) in
                  let i : 0 < c.loop-n.meter.inversions =
                  c.loop-n.invariant.some_inversion
                  (omega (arith, r.degree, next, ap (λ (q : Search). q.degree) u)) in
                  omega (
                    arith,
                    o.3,
                    c.product_at-discrepancy.ensures.inversions,
                    ap (λ (q : Meter). q.inversions) w.meter-is,
                  )
              | inr b ↦
                  let o = r.grown (omega (arith, next)) in
                  omega (arith, o.3, ap (λ (q : Meter). q.inversions) w.meter-is)
            ];
          }
      | else-discrepancy-ne0 w ↦
          let u : old ≡ new = sym w.search-is in
          record {
            search =
                restated (search_kept h (sym v ∙ w.if-discrepancy-ne0.false)) (ap (λ (q : Search). q.locator) u)
                (ap (λ (q : Search). q.earlier) u)
                (ap (λ (q : Search). q.inverse.0) u) (omega (arith, ap (λ (q : Search). q.gap) u))
                (ap (λ (q : Search). q.degree) u) (omega arith);
            within = omega (arith, c.loop-n.invariant.within, ap (λ (q : Search). q.degree) u);
            products =
                step_products n c.args.t c.loop-n.meter.products c.if-discrepancy-ne0.meter.products
                c.loop-n.invariant.products
                (omega (
                  arith,
                  c.product_at-discrepancy.ensures.products,
                  c.loop-n.invariant.within,
                  ap (λ (q : Meter). q.products) w.meter-is,
                ));
            inversions =
                omega (
                  arith,
                  c.product_at-discrepancy.ensures.inversions,
                  c.loop-n.invariant.inversions,
                  ap (λ (q : Meter). q.inversions) w.meter-is,
                );
            each_product =
                omega (
                  arith,
                  c.product_at-discrepancy.ensures.products,
                  c.loop-n.invariant.each_product,
                  ap (λ (q : Meter). q.products) w.meter-is,
                );
            some_inversion = λ g.
                let i : 0 < c.loop-n.meter.inversions =
                c.loop-n.invariant.some_inversion (omega (arith, ap (λ (q : Search). q.degree) u)) in
                omega (arith, c.product_at-discrepancy.ensures.inversions, ap (λ (q : Meter). q.inversions) w.meter-is);
          }
    ]

pub product_at-discrepancy-requires-clause-zeros : goal.product_at-discrepancy-requires-clause-zeros
product_at-discrepancy-requires-clause-zeros c = c.loop-n.invariant.search.connects.degree

pub evaluator_of-evaluator-requires-clause-zeros : goal.evaluator_of-evaluator-requires-clause-zeros
evaluator_of-evaluator-requires-clause-zeros c = c.loop-n.invariant.search.connects.degree

pub returns-clause-least : goal.returns-clause-least
returns-clause-least c =
    let r = c.evaluator_of-evaluator.ensures in
    let h = c.loop-n.invariant.search in
    let p = c.copy_of-locator.ensures ∙ c.coefficients-coefficients.ensures.taken in
    search_results (search_taken h p) (omega arith) c.loop-n.invariant.within
    (bytes_places c.copy_of-locator.result.items (λ i b. (search_taken h p).bytes i))
    r.bytes r.long (λ i b. r.each i b ∙ sym (taken_product h p i))

pub returns-clause-products : goal.returns-clause-products
returns-clause-products c =
    let d = c.loop-n.search.degree in
    all_products (length c.args.s.now) c.args.t d c.loop-n.meter.products c.evaluator_of-evaluator.new.meter.products
    (omega (arith, c.requires.half))
    c.loop-n.invariant.within
    (subst (λ n. c.loop-n.meter.products ≤ n * (2 * c.args.t + 3)) (let q : c.loop-n.n ≡ length c.args.s.now =
    omega arith in q) c.loop-n.invariant.products)
    (omega (arith, c.evaluator_of-evaluator.ensures.products))

pub returns-clause-exact : goal.returns-clause-exact
returns-clause-exact c =
    let p = c.copy_of-locator.ensures ∙ c.coefficients-coefficients.ensures.taken in
    search_exact (search_taken c.loop-n.invariant.search p) (omega arith)
    (omega (arith, ap length c.copy_of-locator.ensures, c.coefficients-coefficients.ensures.count))
    c.evaluator_of-evaluator.ensures.long (returns-clause-least c)

pub returns-then-degree-t-clause-products : goal.returns-then-degree-t-clause-products
returns-then-degree-t-clause-products c = grind (arith, common_steps)
