use Rattle.std.proofs.Common.{◌≡◌, ◌-◌, ◌*◌, ◌+◌, ◌<◌, length, length-take, length-drop, take, drop, get_or, refl, sym}
use Rattle.std.proofs.Common.{ap, ◌∙◌, arith, inl, inr}
use Rattle.std.proofs.Math.Seq.{take-length}
use Rattle.std.proofs.lemmas.Bool.{cases_lt}
use Rattle.std.proofs.lemmas.List.Edits.{get_or-between}
use borrow.Rule.Slice.PartMut.{put_mid}
use Rattle.gf301.specs.Field.{◌⊕◌, ◌⊗◌}
use Rattle.std.proofs.lemmas.List.{ext_get_or, get_or-take}
use Rattle.gf301.specs.Polynomial.{coefficient, convolution, values_from}
use Rattle.gf301.proofs.Exported.{conv_comm, conv_nothing, get_or-values_from, length-values_from}
use Rattle.dm_code.proofs.BerlekampMassey.{zeros_everywhere}
use Rattle.dm_code.proofs.LocatorSteps.{conv_after, conv_before}
use Rattle.dm_code.proofs.Parts.{length-mid, mid_at, mid_before}
use Rattle.dm_code.proofs.weighing.evaluator_of.Goals as goal

pub loop-j-init : goal.loop-j-init
loop-j-init c = record {
  long = refl;
  each = λ i h. zeros_everywhere 96 i ∙ sym (conv_nothing (coefficient c.args.locator.now) i);
}

pub loop-j-preserved : goal.loop-j-preserved
loop-j-preserved c =
    let s = c.args.syndromes.now in
    let l = c.args.locator.now in
    let j = c.loop-j.j in
    let b = c.loop-j.evaluator in
    let v = j + 16 * c.div_ceil.result - j in
    let ys = c.add_scaled.new.sum in
    let long = c.loop-j.invariant.long in
    let few = c.requires in
    let groups = c.div_ceil.ensures in
    let ol : length (take v (drop j b)) ≡ v = simp (length-take, length-drop) (omega arith) in
    let yl : length ys ≡ v = c.add_scaled.ensures.long ∙ ol in
    record {
      long = length-mid j v b ys (omega arith) yl ∙ long;
      each = λ i h. elim (cases_lt i j) [
        | inl o ↦
            mid_before j v b ys i (omega arith) o ∙ c.loop-j.invariant.each i h
            ∙ sym (conv_before s (coefficient l) j i o)
        | inr o ↦
            let d = i - j in
            let q : j + d ≡ i = omega arith in
            ap (λ m. get_or (put_mid j v b ys) m 0) (sym q) ∙ mid_at j v b ys d (omega arith) yl (omega arith)
            ∙ c.add_scaled.ensures.each d (omega (arith, ol))
            ∙ ap (λ y. y ⊕ get_or s j 0 ⊗ get_or l d 0)
            (get_or-between b j (j + 16 * c.div_ceil.result) d 0 (omega arith))
            ∙ ap (λ m. get_or b m 0 ⊕ get_or s j 0 ⊗ get_or l d 0) q
            ∙ ap (λ y. y ⊕ get_or s j 0 ⊗ get_or l d 0) (c.loop-j.invariant.each i h)
            ∙ sym (conv_after s (coefficient l) j i (omega (arith, c.loop-j-test.true)) o)
      ];
    }

pub returns : goal.returns
returns c =
    let s = c.args.syndromes.now in
    let l = c.args.locator.now in
    let t = c.loop-j.evaluator in
    let f = convolution (coefficient l) (coefficient s) in
    let e : c.loop-j.j ≡ length s = omega (arith, c.loop-j-test.false) in
    let long = c.loop-j.invariant.long in
    let few = c.requires in
    let tl : length (take (length s) t) ≡ length s = simp length-take (omega arith) in
    let fl = length-values_from f 0 (length s) in
    ext_get_or 0 (take (length s) t) (values_from f 0 (length s)) (tl ∙ sym fl) (λ i b.
    let h : i < length s = omega arith in
    get_or-take (length s) t i 0 h ∙ c.loop-j.invariant.each i h
    ∙ ap (λ m. convolution (coefficient (take m s)) (coefficient l) i) e
    ∙ ap (λ t. convolution (coefficient t) (coefficient l) i) (take-length s)
    ∙ conv_comm (coefficient s) (coefficient l) i
    ∙ sym (get_or-values_from f 0 (length s) i h ∙ ap f (let q : 0 + i ≡ i = omega arith in q)))
