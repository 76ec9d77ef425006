use Rattle.std.proofs.Common.{◌≡◌, ◌-◌, ◌++◌, drop, length, length-drop, map, sym, ap, ◌∙◌, arith, bit_xor}
use Rattle.std.proofs.lemmas.List.{take-append-drop}
use lib.Lanes.{zip2}
use Rattle.gf301.specs.Field.{◌⊗◌, power}
use Rattle.gf301.specs.Polynomial.{value, values_from}
use Rattle.dm_code.specs.inner.OddTerms.{odd_part}
use Rattle.dm_code.proofs.WeighedSums.{odd_of_parts, values_of_parts}
use Rattle.dm_code.proofs.weighing.long_sums.Goals as goal

pub returns-clause-values : goal.returns-clause-values
returns-clause-values c =
    let xs = values_from power c.args.first 16 in
    let u = c.split_at.result.0.now in
    let v = c.split_at.result.1.now in
    let t = c.args.terms.now in
    let parts : t ≡ u ++ v =
    sym (take-append-drop (length t - 34) t) ∙ ap (λ x. x ++ drop (length t - 34) t) (sym c.split_at.ensures.front)
    ∙ ap (λ x. u ++ x) (sym c.split_at.ensures.back) in
    let long : length v ≡ 34 =
    ap length c.split_at.ensures.back ∙ simp length-drop (omega (arith, c.if-terms-le34.false)) in
    ap (zip2 bit_xor c.lanes_mul.result) c.sums-3.ensures.values
    ∙ values_of_parts t u v xs c.lanes_mul.result 34 parts long
    (c.lanes_mul.ensures ∙ ap (λ y. zip2 (λ x y. x ⊗ y) y c.power_row-power.result) c.sums-2.ensures.values
    ∙ ap (zip2 (λ x y. x ⊗ y) (map (value u) xs)) c.power_row-power.ensures)

pub returns-clause-odd : goal.returns-clause-odd
returns-clause-odd c =
    let xs = values_from power c.args.first 16 in
    let u = c.split_at.result.0.now in
    let v = c.split_at.result.1.now in
    let t = c.args.terms.now in
    let parts : t ≡ u ++ v =
    sym (take-append-drop (length t - 34) t) ∙ ap (λ x. x ++ drop (length t - 34) t) (sym c.split_at.ensures.front)
    ∙ ap (λ x. u ++ x) (sym c.split_at.ensures.back) in
    let long : length v ≡ 34 =
    ap length c.split_at.ensures.back ∙ simp length-drop (omega (arith, c.if-terms-le34.false)) in
    ap (zip2 bit_xor c.lanes_mul-2.result) c.sums-3.ensures.odd
    ∙ odd_of_parts t u v xs c.lanes_mul-2.result 34 parts long (omega arith)
    (c.lanes_mul-2.ensures ∙ ap (λ y. zip2 (λ x y. x ⊗ y) y c.power_row-power.result) c.sums-2.ensures.odd
    ∙ ap (zip2 (λ x y. x ⊗ y) (map (odd_part u) xs)) c.power_row-power.ensures)
