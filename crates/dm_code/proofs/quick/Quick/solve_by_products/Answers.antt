use Rattle.std.proofs.Common.{◌≡◌, ℕ, ◌+◌, ◌-◌, ◌<◌, ◌≤◌, length, refl, sym, ap, subst, ◌∙◌, arith, inl}
use Rattle.std.proofs.Common.{inr, not, get_or, take}
use Rattle.std.proofs.lemmas.Bool.{cases_lt, lt-ltb, le-ltb}
use Rattle.std.proofs.lemmas.List.{get_or-take, get_or_past}
use Rattle.gf301.specs.Field.{◌⊕◌, ◌⊗◌}
use Rattle.gf301.specs.Polynomial.{coefficient, convolution}
use Rattle.gf301.specs.declared.meter.Meter.{Meter}
use Rattle.gf301.proofs.Exported.{conv_below}
use Rattle.dm_code.specs.declared.quick.Search.{Search}
use Rattle.dm_code.specs.declared.products.Products.{Products}
use Rattle.dm_code.proofs.Bytes.{bytes_places}
use Rattle.dm_code.proofs.BerlekampMassey.{IsCorrected, restated, coefficients_taken, search_start, search_listed}
use Rattle.dm_code.proofs.BerlekampMassey.{search_taken, taken_product, search_kept, search_same, search_grown}
use Rattle.dm_code.proofs.BerlekampMassey.{search_refuses, search_results, search_exact}
use Rattle.dm_code.proofs.LocatorProducts.{HasProduct, one_product, corrected_product, same_product}
use Rattle.dm_code.proofs.LocatorProducts.{zeros_past, renamed_product}
use Rattle.dm_code.proofs.Counts.{step_with_products, products_by_steps}
use Rattle.dm_code.proofs.quick.Quick.solve_by_products.Goals as goal
use Rattle.dm_code.proofs.quick.Quick.solve_by_products.Goals.{then-discrepancy-ne0+else-degree-t, else-discrepancy-ne0}

pub loop-n-init : goal.loop-n-init
loop-n-init c =
    let s = c.args.s.now in
    let e = c.new-state.ensures in
    let p = c.new-products.ensures in
    record {
      search =
          restated (search_start s c.new-state.result.locator c.new-state.result.earlier e.locator e.earlier) refl refl
          (sym e.inverse) (sym e.gap) (sym e.degree) refl;
      within = omega (arith, e.degree);
      products = omega (arith, c.default-counts.ensures.0);
      room = omega (arith, c.default-counts.ensures.0);
      inversions = omega (arith, c.default-counts.ensures.1);
      some_products = λ g. omega (arith, e.degree, g);
      some_inversion = λ g. omega (arith, e.degree, g);
      product =
          one_product (length s) c.new-state.result.locator s c.new-products.result.product e.locator
          (λ i. omega (arith, c.type_inv.s i)) p.product;
      earlier =
          one_product (length s) c.new-state.result.earlier s c.new-products.result.earlier e.earlier
          (λ i. omega (arith, c.type_inv.s i)) p.earlier;
      zeros = λ i h. p.earlier i ∙ get_or_past s i 0 h;
    }

pub returns-then-degree-t-clause-none : goal.returns-then-degree-t-clause-none
returns-then-degree-t-clause-none c =
    search_refuses c.loop-n.invariant.search (c.loop-n.invariant.product c.loop-n.n c.loop-n-test.true)
    (omega (arith, c.if-discrepancy-ne0.true)) (omega arith)
    (omega (arith, c.max-degree.ensures, c.if-degree-t.true, c.loop-n.invariant.within))

pub loop-n-preserved : goal.loop-n-preserved
loop-n-preserved c =
    let s = c.args.s.now in
    let n = c.loop-n.n in
    let k = length s in
    let old = c.loop-n.state in
    let l = old.locator in
    let d = old.degree in
    let new = c.if-discrepancy-ne0.state in
    let ps = c.loop-n.products in
    let h = c.loop-n.invariant.search in
    let v = c.loop-n.invariant.product n c.loop-n-test.true in
    elim c.if-discrepancy-ne0.branch [
      | then-discrepancy-ne0+else-degree-t w ↦
          let x = get_or ps.product n 0 in
          let r = w.adjust-then-discrepancy-ne0.ensures in
          let m = w.adjust-then-discrepancy-ne0.new.self in
          let qs = w.adjust.new.self in
          let q = w.adjust.ensures in
          let cor : IsCorrected l old.earlier m.locator x old.inverse.0 old.gap =
          record { low = r.low; high = r.high } in
          let u : m ≡ new = sym w.state-is in
          let next = w.max-degree.ensures in
          let made : c.if-discrepancy-ne0.counts.products ≤ c.loop-n.counts.products + (k + c.args.t + 3) =
          omega (
            arith,
            r.products,
            q.products,
            w.mul-factor.ensures.counted,
            w.if-degree-t.false,
            ap (λ (q : Meter). q.products) w.counts-is,
          ) in
          let whole : HasProduct k m.locator s qs.product =
          corrected_product k s l old.earlier m.locator ps.product ps.earlier qs.product x old.inverse.0 old.gap cor
          c.loop-n.invariant.product c.loop-n.invariant.earlier q.low
          (λ i b. q.high i b
          ∙ ap (λ (y : ℕ). coefficient ps.product (old.gap + i) ⊕ y ⊗ coefficient ps.earlier i)
          w.mul-factor.ensures.product) in
          record {
            search = elim (cases_lt n (d + d)) [
              | inl b ↦
                  let o = r.kept (omega (arith, next)) in
                  restated (search_same h v cor b) (ap (λ (q : Search). q.locator) u) (sym o.0
                  ∙ ap (λ (q : Search). q.earlier) u)
                  (sym o.1 ∙ ap (λ (q : Search). q.inverse.0) u) (omega (arith, o.2, ap (λ (q : Search). q.gap) u))
                  (omega (arith, r.degree, next, ap (λ (q : Search). q.degree) u)) (omega arith)
              | inr b ↦
                  let o = r.grown (omega (arith, next)) in
                  restated
                  (search_listed (search_grown {c =
                  n + 1 - d} h v cor (omega (arith, w.if-discrepancy-ne0.true)) o.1 (omega arith) (omega arith))
                  (λ i. refl) (coefficients_taken l 48
                  (λ i q. h.connects.degree i
                  (omega (arith, c.loop-n.invariant.within, c.requires.few, c.requires.half)))))
                  (ap (λ (q : Search). q.locator) u) (sym o.0 ∙ ap (λ (q : Search). q.earlier) u)
                  (ap (λ (q : Search). q.inverse.0) u) (omega (arith, o.2, ap (λ (q : Search). q.gap) u))
                  (omega (arith, r.degree, next, ap (λ (q : Search). q.degree) u)) (omega arith)
            ];
            within = omega (arith, r.degree, w.if-degree-t.false, ap (λ (q : Search). q.degree) u);
            products =
                step_with_products n k c.args.t c.loop-n.counts.products c.if-discrepancy-ne0.counts.products
                c.requires.half (omega (arith, c.loop-n-test.true)) c.loop-n.invariant.products made;
            room = omega (arith, made, c.loop-n.invariant.room, c.requires.half, c.requires.few);
            some_products = λ g.
                omega (
                  arith,
                  r.products,
                  q.products,
                  w.mul-factor.ensures.counted,
                  h.room,
                  next,
                  ap (λ (q : Meter). q.products) w.counts-is,
                );
            some_inversion = λ g. elim (cases_lt n (d + d)) [
              | inl b ↦
                  let o = r.kept (omega (arith, next)) in
                  let i : 0 < c.loop-n.counts.inversions =
                  c.loop-n.invariant.some_inversion
                  (omega (arith, r.degree, next, ap (λ (q : Search). q.degree) u)) in
                  omega (
                    arith,
                    o.3,
                    q.inversions,
                    w.mul-factor.ensures.kept,
                    ap (λ (q : Meter). q.inversions) w.counts-is,
                  )
              | inr b ↦
                  let o = r.grown (omega (arith, next)) in
                  omega (arith, o.3, ap (λ (q : Meter). q.inversions) w.counts-is)
            ];
            inversions = elim (cases_lt n (d + d)) [
              | inl b ↦
                  let o = r.kept (omega (arith, next)) in
                  omega (
                    arith,
                    o.3,
                    q.inversions,
                    w.mul-factor.ensures.kept,
                    c.loop-n.invariant.inversions,
                    ap (λ (q : Meter). q.inversions) w.counts-is,
                  )
              | inr b ↦
                  let o = r.grown (omega (arith, next)) in
                  omega (
                    arith,
                    o.3,
                    q.inversions,
                    w.mul-factor.ensures.kept,
                    c.loop-n.invariant.inversions,
                    ap (λ (q : Meter). q.inversions) w.counts-is,
                  )
            ];
            product =
                renamed_product k m.locator new.locator s qs.product c.if-discrepancy-ne0.products.product whole
                (ap (λ (q : Search). q.locator) u) (ap (λ (q : Products). q.product) w.products-is);
            earlier = elim (cases_lt n (d + d)) [
              | inl b ↦
                  let o = r.kept (omega (arith, next)) in
                  let e = q.kept (ap not (le-ltb d w.max-degree.result (omega (arith, next)))) in
                  renamed_product k old.earlier new.earlier s ps.earlier c.if-discrepancy-ne0.products.earlier
                  c.loop-n.invariant.earlier (sym o.0 ∙ ap (λ (q : Search). q.earlier) u)
                  (ap (λ (q : Products). q.earlier) w.products-is ∙ e)
              | inr b ↦
                  let o = r.grown (omega (arith, next)) in
                  let e = q.grown (lt-ltb d w.max-degree.result (omega (arith, next))) in
                  same_product k l new.earlier s ps.product c.if-discrepancy-ne0.products.earlier
                  c.loop-n.invariant.product
                  (λ i. coefficients_taken l 48
                  (λ j q. h.connects.degree j
                  (omega (arith, c.loop-n.invariant.within, c.requires.few, c.requires.half))) i
                  ∙ ap (λ t. coefficient t i) (sym o.0 ∙ ap (λ (q : Search). q.earlier) u))
                  (λ i. ap (λ (q : Products). coefficient q.earlier i) w.products-is ∙ e i)
            ];
            zeros = λ i o. ap (λ (q : Products). coefficient q.earlier i) w.products-is
                ∙ elim (cases_lt n (d + d)) [
                  | inl b ↦
                      ap (λ t. coefficient t i) (q.kept (ap not (le-ltb d w.max-degree.result (omega (arith, next)))))
                      ∙ c.loop-n.invariant.zeros i o
                  | inr b ↦
                      q.grown (lt-ltb d w.max-degree.result (omega (arith, next))) i
                      ∙ zeros_past k ps.product i o
                ];
          }
      | else-discrepancy-ne0 w ↦
          let u : old ≡ new = sym w.state-is in
          record {
            search =
                restated (search_kept h (sym v ∙ w.if-discrepancy-ne0.false)) (ap (λ (q : Search). q.locator) u)
                (ap (λ (q : Search). q.earlier) u)
                (ap (λ (q : Search). q.inverse.0) u) (omega (arith, ap (λ (q : Search). q.gap) u))
                (ap (λ (q : Search). q.degree) u) (omega arith);
            within = omega (arith, c.loop-n.invariant.within, ap (λ (q : Search). q.degree) u);
            products =
                step_with_products n k c.args.t c.loop-n.counts.products c.if-discrepancy-ne0.counts.products
                c.requires.half (omega (arith, c.loop-n-test.true)) c.loop-n.invariant.products
                (omega (arith, ap (λ (q : Meter). q.products) w.counts-is));
            room = omega (arith, c.loop-n.invariant.room, ap (λ (q : Meter). q.products) w.counts-is);
            inversions = omega (arith, c.loop-n.invariant.inversions, ap (λ (q : Meter). q.inversions) w.counts-is);
            some_products = λ g.
                let i : k + 3 ≤ c.loop-n.counts.products =
                c.loop-n.invariant.some_products (omega (arith, ap (λ (q : Search). q.degree) u)) in
                omega (arith, ap (λ (q : Meter). q.products) w.counts-is);
            some_inversion = λ g.
                let i : 0 < c.loop-n.counts.inversions =
                c.loop-n.invariant.some_inversion (omega (arith, ap (λ (q : Search). q.degree) u)) in
                omega (arith, ap (λ (q : Meter). q.inversions) w.counts-is);
            product =
                renamed_product k l new.locator s ps.product c.if-discrepancy-ne0.products.product
                c.loop-n.invariant.product (ap (λ (q : Search). q.locator) u)
                (ap (λ (q : Products). q.product) w.products-is);
            earlier =
                renamed_product k old.earlier new.earlier s ps.earlier c.if-discrepancy-ne0.products.earlier
                c.loop-n.invariant.earlier (ap (λ (q : Search). q.earlier) u)
                (ap (λ (q : Products). q.earlier) w.products-is);
            zeros = λ i o. ap (λ (q : Products). coefficient q.earlier i) w.products-is ∙ c.loop-n.invariant.zeros i o;
          }
    ]

pub returns-clause-least : goal.returns-clause-least
returns-clause-least c =
    let h = c.loop-n.invariant.search in
    let d = c.loop-n.state.degree in
    let w = c.copy_of-evaluator.result.items in
    let a : w ≡ take d c.loop-n.products.product = c.copy_of-evaluator.ensures ∙ c.below-product.ensures.taken in
    let long : length w ≡ d = ap length c.copy_of-evaluator.ensures ∙ c.below-product.ensures.count in
    let p = c.copy_of-locator.ensures ∙ c.coefficients-coefficients.ensures.taken in
    let each : (i : ℕ) → i < length w → coefficient w i ≡ convolution (coefficient c.loop-n.state.locator)
    (coefficient c.args.s.now) i = λ i b.
    ap (λ u. coefficient u i) a ∙ get_or-take d c.loop-n.products.product i 0 (omega arith)
    ∙ c.loop-n.invariant.product i (omega arith) in
    search_results (search_taken h p) (omega arith) c.loop-n.invariant.within
    (bytes_places c.copy_of-locator.result.items (λ i b. (search_taken h p).bytes i))
    (bytes_places w (λ i b. subst (λ y. y < 256) (sym (each i b))
    (conv_below (coefficient c.loop-n.state.locator) (coefficient c.args.s.now) i)))
    long (λ i b. each i b ∙ sym (taken_product h p i))

pub returns-clause-exact : goal.returns-clause-exact
returns-clause-exact c =
    let d = c.loop-n.state.degree in
    let long : length c.copy_of-evaluator.result.items ≡ d =
    ap length c.copy_of-evaluator.ensures ∙ c.below-product.ensures.count in
    let p = c.copy_of-locator.ensures ∙ c.coefficients-coefficients.ensures.taken in
    search_exact (search_taken c.loop-n.invariant.search p) (omega arith)
    (omega (arith, ap length c.copy_of-locator.ensures, c.coefficients-coefficients.ensures.count)) long
    (returns-clause-least c)

pub returns-then-degree-t-clause-products : goal.returns-then-degree-t-clause-products
returns-then-degree-t-clause-products c =
    products_by_steps c.loop-n.n (length c.args.s.now) c.loop-n.counts.products (omega (arith, c.loop-n-test.true))
    c.loop-n.invariant.products

pub returns-clause-products : goal.returns-clause-products
returns-clause-products c =
    products_by_steps c.loop-n.n (length c.args.s.now) c.loop-n.counts.products (omega arith)
    c.loop-n.invariant.products
