use Rattle.std.proofs.Common.{◌≡◌, ◌-◌, ◌*◌, ◌+◌, suc, zero, ℕ, [], ◌∷◌, length, length-take, length-drop, take}
use Rattle.std.proofs.Common.{drop, drop-cons, get_or, replicate, refl, sym, ap, subst, ◌∙◌, arith}
use Rattle.std.proofs.lemmas.List.{drop_all}
use Rattle.std.proofs.lemmas.List.Edits.{get_or-between}
use borrow.Rule.Slice.PartMut.{put_mid}
use Rattle.gf301.specs.Field.{◌⊕◌, ◌⊗◌, power}
use Rattle.gf301.specs.Polynomial.{coefficient}
use Rattle.dm_code.specs.inner.Lessened.{places_locator}
use Rattle.dm_code.proofs.BerlekampMassey.{zeros_everywhere}
use Rattle.dm_code.proofs.EachErased.{locator_taken}
use Rattle.dm_code.proofs.LocatorSteps.{IsLocator, locator_step}
use Rattle.dm_code.proofs.Parts.{length-mid}
use Rattle.dm_code.proofs.weighing.locator_of.Goals as goal

one_alone : (n i : ℕ) → get_or (1 ∷ replicate 80 0) i 0 ≡ coefficient (places_locator n []) i
unfolding places_locator
one_alone n zero = refl
one_alone n (suc i) = zeros_everywhere 80 i

pub loop-done-init : goal.loop-done-init
loop-done-init c =
    let q = c.args.places.now in
    let e : [] ≡ drop (length q - 0) q = sym (drop_all (length q - 0) q (omega arith)) in
    record {
      long = refl;
      each = λ i. one_alone c.args.n i ∙ ap (λ t. coefficient (places_locator c.args.n t) i) e;
    }

pub loop-done-preserved : goal.loop-done-preserved
loop-done-preserved c =
    let n = c.args.n in
    let q = c.args.places.now in
    let done = c.loop-done.done in
    let m = length q - (done + 1) in
    let l = c.loop-done.locator in
    let v = 1 + 16 * c.div_ceil.result - 1 in
    let ys = c.add_scaled.new.sum in
    let r = c.power_of_two-at.result.0 in
    let p = get_or q m 0 in
    let long = c.loop-done.invariant.long in
    let few = c.requires.few in
    let more = c.loop-done-test.true in
    let groups = c.div_ceil.ensures in
    let ol : length (take v (drop 1 l)) ≡ v = simp (length-take, length-drop) (omega arith) in
    let yl : length ys ≡ v = c.add_scaled.ensures.long ∙ ol in
    let before : IsLocator n (drop (suc m) q) l =
    subst (λ j. IsLocator n (drop j q) l) (let z : length q - done ≡ suc m = omega arith in
    z) c.loop-done.invariant.each in
    let rest : length (drop (suc m) q) ≡ done = simp length-drop (omega arith) in
    let at : r ≡ power (n - suc p) =
    let last : length q - 1 - done ≡ m = omega arith in
    c.power_of_two-at.ensures ∙ ap power (let z : n - 1 - c.from-place.result ≡ n - suc p =
    omega (arith, c.from-place.ensures, ap (λ j. get_or q j 0) last) in z) in
    record {
      long = length-mid 1 v l ys (omega arith) yl ∙ long;
      each = subst (λ t. IsLocator n t (put_mid 1 v l ys)) (sym (drop-cons q m 0 (omega arith)))
          (locator_step n p r (drop (suc m) q) l ys v before at (omega arith) (omega arith) yl
          (λ i b. c.add_scaled.ensures.each i (omega (arith, ol))
          ∙ ap (λ y. y ⊕ r ⊗ get_or l i 0) (get_or-between l 1 (1 + 16 * c.div_ceil.result) i 0 (omega arith))));
    }

each : (c : goal.After-loop-done) → IsLocator c.args.n c.args.places.now c.loop-done.locator
each c i =
    let q = c.args.places.now in
    c.loop-done.invariant.each i
    ∙ ap (λ m. coefficient (places_locator c.args.n (drop m q)) i) (let z : length q - c.loop-done.done ≡ 0 =
    omega (arith, c.loop-done-test.false) in z)

pub returns-clause-taken : goal.returns-clause-taken
returns-clause-taken c =
    locator_taken c.args.n c.args.places.now c.loop-done.locator
    (omega (arith, c.loop-done.invariant.long, c.requires.few)) (each c)

pub returns-clause-each : goal.returns-clause-each
returns-clause-each c = each c
