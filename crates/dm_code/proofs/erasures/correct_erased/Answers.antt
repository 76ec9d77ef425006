use Rattle.std.proofs.Common.{sym, subst, ◌∙◌, arith, ap, length}
use Rattle.std.proofs.lemmas.Grind.{common_steps}
use Rattle.dm_code.specs.inner.Lessened.{IsAscending}
use Rattle.dm_code.proofs.EachErased.{erased_ascending, places_within}
use Rattle.dm_code.proofs.erasures.correct_erased.Goals as goal

pub correct_around-requires-clause-within : goal.correct_around-requires-clause-within
correct_around-requires-clause-within g c =
    places_within c.args.word.now c.deref.result.now c.args.erased.now c.requires.same
    (c.deref.ensures.0 ∙ c.places_of-places.ensures)

pub correct_around-requires-clause-ascending : goal.correct_around-requires-clause-ascending
correct_around-requires-clause-ascending g c =
    subst IsAscending (sym (c.deref.ensures.0 ∙ c.places_of-places.ensures)) (erased_ascending 0 c.args.erased.now)

pub returns-clause-left : goal.returns-clause-left
returns-clause-left g c = grind (arith, common_steps)

pub returns-then-k-len-clause-near : goal.returns-then-k-len-clause-near
returns-then-k-len-clause-near g c = λ other near. omega (arith, near.close, ap length c.places_of-places.ensures)
