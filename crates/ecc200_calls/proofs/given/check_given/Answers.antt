use Rattle.ecc200_calls.proofs.Names.{◌≡◌, ◌≢◌, ◌*◌, ◌∙◌, ℕ, true, List, [], ◌∷◌, Some, inl, inr, length, refl, sym, ap}
use Rattle.ecc200_calls.proofs.Names.{arith, false≢true, area, entry_with, nat_tests, IsGivenFault}
use Rattle.std.specs.Bool.{◌==◌}
use Rattle.ecc200_calls.proofs.OfGiven.{doubt_fault, sides_found}
use Rattle.ecc200_calls.proofs.given.check_given.Goals as goal

pub returns-then-doubtful-count-clause-known : goal.returns-then-doubtful-count-clause-known
returns-then-doubtful-count-clause-known c = tt

pub returns-then-modules-count-clause-fault : goal.returns-then-modules-count-clause-fault
returns-then-modules-count-clause-fault c =
    let count : c.from.result * c.from-2.result ≡ c.args.rows * c.args.columns =
    rw (c.from.ensures, c.from-2.ensures) refl in
    IsGivenFault.wrong_count (λ same. c.if-modules-count.true (same ∙ sym count)) c.shape.ensures

pub returns-then-doubtful-count-clause-fault : goal.returns-then-doubtful-count-clause-fault
returns-then-doubtful-count-clause-fault c =
    let a = c.args in
    let count : c.from.result * c.from-2.result ≡ a.rows * a.columns = rw (c.from.ensures, c.from-2.ensures) refl in
    let some : a.doubtful.now ≢ [] =
    λ none. false≢true (c.if-not-is_empty.ensures ∙ ap (λ (numbers : List ℕ). length numbers == 0) none) in
    rw c.wrong_doubt.ensures
    (doubt_fault a.rows a.columns a.modules.now a.doubtful.now c.in-Some.size (sym c.of.ensures ∙ c.in-Some.is)
    (c.if-modules-count.false ∙ count) some (λ same. c.if-doubtful-count.true (same ∙ sym count)))

-- A list without items is empty.
none_there : (numbers : List ℕ) → (length numbers == 0) ≡ true → numbers ≡ []
none_there [] e = refl
none_there (x ∷ xs) e = absurd grind (arith, nat_tests)

pub returns-clause-known : goal.returns-clause-known
returns-clause-known c =
    let a = c.args in
    let size = c.in-Some.size in
    let doubt = a.doubtful.now in
    let entry : entry_with a.rows a.columns ≡ Some size = sym c.of.ensures ∙ c.in-Some.is in
    let sides = sides_found a.rows a.columns size entry in
    let count : c.from.result * c.from-2.result ≡ area size =
    rw (c.from.ensures, c.from-2.ensures, ← sides.0, ← sides.1) refl in
    record {
      entry = entry;
      rows_are = sides.0;
      columns_are = sides.1;
      count = c.if-modules-count.false ∙ count;
      doubt_count = λ some. elim c.else-not-is_empty.either [
        | inl w ↦ w.1 ∙ count
        | inr w ↦ absurd (some (none_there doubt (sym c.is_empty.ensures ∙ w)))
      ];
      doubtful = λ told. c.are_zero.ensures.some grind (arith, nat_tests);
      sure = λ told. c.are_zero.ensures.none grind (arith, nat_tests);
    }
