use Rattle.std.proofs.Common.{◌≡◌, ◌+◌, ◌*◌, subst, arith, refl}
use Rattle.gf301.proofs.Exported.{IsAddedTo, added_more}
use Rattle.dm_code.proofs.ErrorTerms.{error_term, AreErrorTerms, error_terms_start, error_terms_next, sixteenth}
use Rattle.dm_code.proofs.errors.add_error.Goals as goal

pub loop-group-init : goal.loop-group-init
loop-group-init c = record {
  terms =
      error_terms_start c.args.value.0 c.args.at.0 c.mul.result.0 c.powers_of-powers.result c.scale-terms.result
      c.powers_of-powers.ensures c.mul.ensures c.scale-terms.ensures;
  added = record { long = refl; done = λ i h. absurd (omega arith); left = λ i h. refl };
}

pub loop-group-preserved : goal.loop-group-preserved
loop-group-preserved c =
    let v = c.args.value.0 in
    let x = c.args.at.0 in
    let n = 16 * c.loop-group.group in
    let i = c.loop-group.invariant in
    let e : n + 16 ≡ 16 * (c.loop-group.group + 1) = omega arith in
    record {
      terms = subst (AreErrorTerms v x c.scale-terms-in-loop-group.result) e
          (error_terms_next v x c.mul-sixteenth.result.0 n c.loop-group.terms c.scale-terms-in-loop-group.result i.terms
          (sixteenth x c.mul-sixteenth.result.0 c.powers_of-powers.result c.powers_of-powers.ensures
          c.mul-sixteenth.ensures) c.scale-terms-in-loop-group.ensures);
      added = subst (IsAddedTo (error_term v x) c.args.syndromes.now _) e
          (added_more (error_term v x) c.args.syndromes.now c.loop-group.syndromes c.loop-group.terms n (omega arith)
          i.terms.long i.terms.each i.added);
    }

pub returns-clause-each : goal.returns-clause-each
returns-clause-each c = λ i h. c.loop-group.invariant.added.done i (omega arith)
