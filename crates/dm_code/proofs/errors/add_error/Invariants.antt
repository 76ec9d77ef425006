use Rattle.std.proofs.Common.{◌*◌}
use Rattle.gf301.proofs.Exported.{IsAddedTo}
use Rattle.dm_code.proofs.ErrorTerms.{error_term, AreErrorTerms}
use Rattle.dm_code.proofs.errors.add_error.Given as goal

abbrev pub invariant-loop-group : goal.invariant-loop-group
invariant-loop-group l = record {
  terms : AreErrorTerms l.fn.value.0 l.fn.at.0 l.terms (16 * l.group);
  added : IsAddedTo (error_term l.fn.value.0 l.fn.at.0) l.initial.syndromes l.syndromes (16 * l.group);
}
