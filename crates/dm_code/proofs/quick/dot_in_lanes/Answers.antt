use Rattle.std.proofs.Common.{◌≡◌, ℕ, ◌+◌, ◌*◌, length, get_or, refl, sym, ap, ◌∙◌, arith, bit_xor}
use Rattle.std.proofs.lemmas.Simd.{length-zip2, length-chunk, get_or-zip2, get_or-chunk}
use lib.Lanes.{chunk}
use Rattle.gf301.specs.Field.{◌⊕◌, ◌⊗◌}
use Rattle.gf301.specs.Polynomial.{coefficient}
use Rattle.dm_code.specs.inner.LinearSystem.{dot}
use Rattle.dm_code.proofs.LaneDots.{total, total_sums, total_products, dot_parts}
use Rattle.dm_code.proofs.quick.dot_in_lanes.Goals as goal

pub loop-group-init : goal.loop-group-init
unfolding dot
loop-group-init c = refl

pub loop-group-preserved : goal.loop-group-preserved
loop-group-preserved c =
    let a = c.args.list.now in
    let b = c.args.other.now in
    let first = c.args.first in
    let n = 16 * c.loop-group.group in
    let f : ℕ → ℕ = coefficient a in
    let v : ℕ → ℕ = λ i. coefficient b (first + i) in
    let p = c.lanes_mul-sum.result in
    let al : length (chunk n 16 a) ≡ 16 = length-chunk n 16 a (omega arith) in
    let bl : length (chunk (first + n) 16 b) ≡ 16 = length-chunk (first + n) 16 b (omega arith) in
    let pl : length p ≡ 16 =
    ap length c.lanes_mul-sum.ensures ∙ length-zip2 (λ x y. x ⊗ y) (chunk n 16 a) (chunk (first + n) 16 b) (al
    ∙ sym bl) ∙ al in
    let sl : length c.loop-group.sum ≡ 16 = c.loop-group.auto.sum.0 in
    total_sums c.loop-group.sum p (sl ∙ sym pl)
    ∙ ap (λ y. y ⊕ total p) c.loop-group.invariant
    ∙ ap (bit_xor (dot f v 0 n))
    (total_products f v (0 + n) 16 p pl (λ i h.
    ap (λ u. get_or u i 0) c.lanes_mul-sum.ensures
    ∙ get_or-zip2 (λ x y. x ⊗ y) (chunk n 16 a) (chunk (first + n) 16 b) i 0 0 0 (omega (arith, al)) (omega (arith, bl))
    ∙ ap (λ y. y ⊗ get_or (chunk (first + n) 16 b) i 0) (get_or-chunk n 16 a i 0 h
    ∙ ap (coefficient a) (let q : n + i ≡ 0 + n + i = omega arith in q))
    ∙ ap (λ y. f (0 + n + i) ⊗ y) (get_or-chunk (first + n) 16 b i 0 h
    ∙ ap (coefficient b) (let q : first + n + i ≡ first + (0 + n + i) = omega arith in q))))
    ∙ sym (dot_parts f v 0 n 16) ∙ ap (dot f v 0) (let q : n + 16 ≡ 16 * (c.loop-group.group + 1) = omega arith in q)

pub returns : goal.returns
returns c =
    c.loop-group.invariant
    ∙ ap (λ n. dot (coefficient c.args.list.now) (λ i. coefficient c.args.other.now (c.args.first + i)) 0 (16 * n))
    (let q : c.loop-group.group ≡ c.args.groups = omega arith in q)
