use Rattle.ecc200_calls.proofs.Names.{◌≡◌, ◌<◌, ℕ, [], None, Option, Some, IsNone, IsSome, true, false, arith, get_or}
use Rattle.ecc200_calls.proofs.Names.{length, refl, rules, sym, false≢true, restored, lost}
use Rattle.dm_symbol.specs.declared.BlockReading.{BlockReading}
use Rattle.ecc200_calls.specs.inner.Designators.{AreFoundDesignators}
use Rattle.ecc200_calls.specs.Inspections.{AreDesignatorsGiven}
use Rattle.std.proofs.Common.{tests}
use Rattle.std.proofs.lemmas.Iterator.{cases_from_any, YieldsList-from_slice}
use Rattle.ecc200_calls.proofs.inspection.show_designators.Goals as goal
use Rattle.ecc200_calls.proofs.inspection.show_designators.Goals.{Else-any}

-- None is none.
is_none : (o : Option BlockReading) → IsNone o → o ≡ None
is_none None h = refl
is_none (Some block) h = absurd (false≢true (sym h))

pub returns-then-any : goal.returns-then-any
returns-then-any g c =
    let some =
    cases_from_any _ _ true (λ (o : Option BlockReading). IsNone o) (λ (o : Option BlockReading). IsSome o)
    c.if-any.ensures.ran (YieldsList-from_slice c.args.inspection.now.blocks.items cc) (λ x q k. search (rules, tests))
    (λ x q k. search (rules, tests)) in
    record { marks = []; are_designators = lost some.0 some.1 (is_none _ (some.2 None)) refl; shown = refl }

-- No block is lost.
none_lost : (g : _) (c : Else-any g) (b : ℕ) → b < length c.args.inspection.now.blocks.items
    → IsSome (get_or c.args.inspection.now.blocks.items b None)
none_lost g c b hb =
    cases_from_any _ _ false (λ (o : Option BlockReading). IsNone o) (λ (o : Option BlockReading). IsSome o)
    c.if-any.ensures.ran (YieldsList-from_slice c.args.inspection.now.blocks.items cc) (λ x q k. search (rules, tests))
    (λ x q k. search (rules, tests)) b None (omega arith) hb

pub returns-then-not-has_eci : goal.returns-then-not-has_eci
returns-then-not-has_eci g c =
    record {
      marks = [];
      are_designators = restored (none_lost g (goal.at.returns-then-not-has_eci g c).Else-any)
          (rw c.data_part-words.ensures.value at c.has_eci.ensures.none c.if-not-has_eci.true);
      shown = refl;
    }

-- What is found is given.
found_given : (g : _) (c : Else-any g) (after : _)
    → AreFoundDesignators c.data_part-words.result.now c.args.out.now after
    → AreDesignatorsGiven c.args.inspection.now c.args.out.now after
found_given g c after found =
    record {
      marks = found.marks;
      are_designators = restored (none_lost g c) (rw c.data_part-words.ensures.value at found.are_designations);
      shown = found.shown;
    }

pub returns-then-from-le-SMALL_MARKS : goal.returns-then-from-le-SMALL_MARKS
returns-then-from-le-SMALL_MARKS g c =
    found_given g (goal.at.returns-then-from-le-SMALL_MARKS g c).Else-any _ c.find_designators.ensures

pub returns-else-from-le-SMALL_MARKS : goal.returns-else-from-le-SMALL_MARKS
returns-else-from-le-SMALL_MARKS g c =
    found_given g (goal.at.returns-else-from-le-SMALL_MARKS g c).Else-any _
    c.find_designators-else-from-le-SMALL_MARKS.ensures
