use Rattle.std.proofs.Common.{◌≡◌, ◌+◌, ◌++◌, ◌∷◌, [], suc, length, length-take, length-drop, length-append, take, drop}
use Rattle.std.proofs.Common.{get_or, ap, ◌∙◌, arith}
use Rattle.std.proofs.lemmas.List.{get_or_append_left, get_or-take, get_or-drop}
use Rattle.std.proofs.Math.Seq.{take-length}
use Rattle.gf301.specs.Field.{◌⊕◌, ◌⊗◌}
use Rattle.dm_code.proofs.Register.{get_or-push_zero}
use Rattle.std.proofs.lemmas.Grind.{common_steps}
use Rattle.dm_code.proofs.encoding.row_after.Goals as goal

pub returns-clause-each : goal.returns-clause-each
returns-clause-each g c = λ i h.
    let t = c.args.taps.now in
    let w = g.row.WIDTH in
    let moved = c.copy_from_slice.new.self in
    let sum = c.add_scaled.new.sum in
    let long : length (moved ++ 0 ∷ []) ≡ 80 =
    omega (arith, length-append moved (0 ∷ []), c.copy_from_slice.ensures.len) in
    let part : length (take w (moved ++ 0 ∷ [])) ≡ w = simp length-take (omega (arith, long, c.requires.narrow)) in
    let rest : length (drop 1 t) ≡ 79 = simp length-drop (omega arith) in
    get_or_append_left sum (drop w (moved ++ 0 ∷ [])) 0 i (omega (arith, c.add_scaled.ensures.long, part))
    ∙ c.add_scaled.ensures.each i (omega (arith, part))
    ∙ ap (λ y. y ⊕ get_or t 0 0 ⊗ get_or t i 0)
    (get_or-take w (moved ++ 0 ∷ []) i 0 h ∙ get_or-push_zero moved i
    ∙ ap (λ u. get_or u i 0) (c.copy_from_slice.ensures.after
    ∙ ap (λ n. take n (drop 1 t)) (let q : 79 ≡ length (drop 1 t) = omega (arith, rest) in q) ∙ take-length (drop 1 t))
    ∙ get_or-drop 1 t i 0 ∙ ap (λ n. get_or t n 0) (let q : 1 + i ≡ suc i = omega arith in q))

pub slice_bounds-row-end-2 : goal.slice_bounds-row-end-2
slice_bounds-row-end-2 g c = grind (arith, common_steps)

pub slice_bounds-add_scaled-end : goal.slice_bounds-add_scaled-end
slice_bounds-add_scaled-end g c = grind (arith, common_steps)

pub add_scaled-requires-clause-enough : goal.add_scaled-requires-clause-enough
add_scaled-requires-clause-enough g c = grind (arith, common_steps)

pub add_scaled-requires-clause-lanes : goal.add_scaled-requires-clause-lanes
add_scaled-requires-clause-lanes g c = grind (arith, common_steps)
