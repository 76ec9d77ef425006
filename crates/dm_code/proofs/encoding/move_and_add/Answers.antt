use Rattle.std.proofs.Common.{ℕ, suc, ◌+◌, ◌*◌, ◌++◌, get_or, ap, subst, ◌∙◌, arith, ◌≡◌, bit_xor}
use Rattle.std.specs.List.{range_with_len}
use lib.Lanes.{zip2, chunk, pick_l}
use Rattle.gf301.specs.Field.{◌⊕◌, ◌⊗◌}
use Rattle.gf301.proofs.Exported.{IsDoneTo, done_more}
use Rattle.dm_code.proofs.Division.{products_of_two, moved_sums}
use Rattle.dm_code.proofs.encoding.move_and_add.Goals as goal

pub loop-group-preserved : goal.loop-group-preserved
loop-group-preserved g c =
    let n = 16 * c.loop-group.group in
    let b = c.args.left.now in
    let s = c.loop-group.left in
    let u = c.args.row.now in
    let v = c.args.other.now in
    let f : ℕ → ℕ = λ i. c.args.first ⊗ get_or u i 0 ⊕ c.args.second ⊗ get_or v i 0 in
    let h : ℕ → ℕ → ℕ = λ i x. get_or b (suc (suc i)) 0 ⊕ f i in
    let t = zip2 bit_xor c.scale-some.result c.scale-others.result in
    let p =
    products_of_two c.args.first c.args.second u v c.scale-some.result c.scale-others.result n (omega arith)
    (omega arith) c.scale-some.ensures c.scale-others.ensures in
    let m = moved_sums f s t n (omega (arith, c.loop-group.invariant.long)) p.0 p.1 in
    let e : n + 16 ≡ 16 * (c.loop-group.group + 1) = omega arith in
    subst (IsDoneTo h b _) e
    (done_more h b s
    (zip2 bit_xor (pick_l 0 (chunk n 16 s ++ chunk (n + 16) 16 s) (range_with_len 2 16)) t) n (omega arith) m.0
    (λ i l. m.1 i l ∙ ap (λ y. y ⊕ f (n + i)) (c.loop-group.invariant.left (suc (suc (n + i))) (omega arith)))
    c.loop-group.invariant)

pub returns-clause-moved : goal.returns-clause-moved
returns-clause-moved g c i h = c.loop-group.invariant.done i (omega arith)

pub returns-clause-kept : goal.returns-clause-kept
returns-clause-kept g c i h = c.loop-group.invariant.left i (omega arith)
