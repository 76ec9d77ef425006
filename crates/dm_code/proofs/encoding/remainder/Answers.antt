use Rattle.std.proofs.Common.{◌≡◌, ◌+◌, ◌-◌, suc, length, length-drop, take, drop, get_or, replicate, sym, ap}
use Rattle.std.proofs.Common.{subst, ◌∙◌, arith, refl, ◌++◌, inl, inr}
use Rattle.std.proofs.lemmas.Bool.{cases_lt}
use Rattle.std.proofs.lemmas.List.{get_or_append_left, get_or_past}
use Rattle.gf301.specs.Field.{◌⊕◌, ◌⊗◌, power, raise}
use Rattle.gf301.specs.Polynomial.{value}
use Rattle.dm_code.proofs.SyndromeLaws.{same_syndromes}
use Rattle.dm_code.proofs.Division.{rest_value, zeros_at}
use Rattle.dm_code.proofs.LocatorProducts.{coefficients_padded}
use Rattle.dm_code.proofs.encoding.remainder.Goals as goal

pub returns-clause-same : goal.returns-clause-same
returns-clause-same c =
    let w = c.args.word.now in
    let k = c.args.k in
    let n = length w - k in
    let l = c.divide-rest.result in
    let r = c.loop-i.rest in
    let back : length (drop n w) ≡ k = simp length-drop (omega arith) in
    let ys = c.copy_from_slice.new.self in
    let same : ys ≡ drop n w = c.copy_from_slice.ensures.after ∙ c.split_at.ensures.back in
    same_syndromes (take k r) w k (λ i h.
    rest_value k (power (suc i)) w l r (omega arith) (omega arith)
    (omega (arith, c.loop-i.invariant.long))
    (λ j o.
    c.loop-i.invariant.done j (omega arith)
    ∙ ap (λ y. get_or l j 0 ⊕ y) (get_or_append_left ys _ 0 j
    (omega (arith, ap length same, back))
    ∙ ap (λ u. get_or u j 0) same))
    (ap (λ u. value u (power (suc i)) ⊗ raise (power (suc i)) k) (sym c.split_at.ensures.front)
    ∙ subst (λ j. value c.split_at.result.0.now (power j) ⊗ raise (power j) k ≡ value (take k l) (power j))
    (let q : 1 + i ≡ suc i = omega arith in q) (c.divide-rest.ensures.same i h)))

pub returns-clause-past : goal.returns-clause-past
returns-clause-past c i h =
    let w = c.args.word.now in
    let k = c.args.k in
    let l = c.divide-rest.result in
    let r = c.loop-i.rest in
    let ys = c.copy_from_slice.new.self in
    let back : length ys ≡ k =
    ap length (c.copy_from_slice.ensures.after ∙ c.split_at.ensures.back) ∙ simp length-drop (omega arith) in
    let behind : get_or (ys ++ drop k (replicate 96 0)) i 0 ≡ 0 =
    ap (λ n. get_or (ys ++ drop n (replicate 96 0)) i 0) (sym back)
    ∙ coefficients_padded ys ys (replicate 96 0) refl (zeros_at 96) i ∙ get_or_past ys i 0 (omega arith) in
    elim (cases_lt i 96) [
      | inl o ↦ c.loop-i.invariant.done i (omega arith)
          ∙ ap (λ y. y ⊕ get_or (ys ++ drop k (replicate 96 0)) i 0) (c.divide-rest.ensures.past i h)
          ∙ ap (λ y. 0 ⊕ y) behind
      | inr o ↦ get_or_past r i 0 (omega (arith, c.loop-i.invariant.long))
    ]
