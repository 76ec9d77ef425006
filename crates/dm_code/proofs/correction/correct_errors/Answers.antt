use Rattle.std.proofs.Common.{◌/◌, ℕ, List, get_or, sym, ap, subst, ◌∙◌, arith}
use Rattle.dm_code.specs.KeyEquation.{IsLeastPair}
use Rattle.dm_code.specs.Syndromes.{syndromes_of}
use Rattle.dm_code.specs.KeyEquationLaws.{IsSamePolynomial}
use Rattle.dm_code.proofs.Bytes.{bytes_places}
use Rattle.dm_code.proofs.Nearness.{least_same}
use Rattle.dm_code.proofs.correction.correct_errors.Goals as goal

pub correct_roots-requires-clause-tight : goal.correct_roots-requires-clause-tight
correct_roots-requires-clause-tight c =
    λ n h. c.trim_zeros-locator.ensures.tight n (λ i q. c.trim_zeros-locator.ensures.same i ∙ h i q)

pub correct_roots-requires-clause-key : goal.correct_roots-requires-clause-key
correct_roots-requires-clause-key c =
    let s = syndromes_of c.args.word.now c.args.k in
    let l = c.trim_zeros-locator.result.now in
    let key = c.args.key.now in
    let same : IsSamePolynomial key.locator.items l =
    λ i. sym (ap (λ (u : List ℕ). get_or u i 0) c.deref.ensures.0) ∙ c.trim_zeros-locator.ensures.same i in
    subst (IsLeastPair s (c.args.k / 2) l) (sym c.deref-2.ensures.0)
    (least_same s key.locator.items key.evaluator.items l (c.args.k / 2)
    (bytes_places l (λ i h. omega (arith, c.type_inv.locator i))) same c.requires.key)
