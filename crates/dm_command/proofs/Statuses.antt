-- The status of the whole is the largest of the parts' statuses.
use Rattle.std.proofs.Common.{◌≡◌, ◌<◌, ◌+◌, ◌∙◌, ℕ, zero, suc, max, List, [], ◌∷◌, refl, ap, ap₂, arith}
use Rattle.dm_text.specs.declared.Tally.{Tally}
use Rattle.dm_text.specs.Runs.{AreMatched}
use Rattle.dm_text.specs.Cuts.{sum_of}
use Rattle.dm_command.specs.Statuses.{EndsWith, largest}

-- The status is 0 if none was refused, and else 1.
status_for : ℕ → ℕ
status_for zero = 0
status_for (suc n) = 1

-- A status that is 0 if none was refused, and 1 if some were, is the status for that number.
status_is : (refused status : ℕ) → (refused ≡ 0 → status ≡ 0) → (0 < refused → status ≡ 1) → status ≡ status_for refused
unfolding status_for
status_is zero status none some = none refl
status_is (suc n) status none some = some (omega arith)

-- The status for the sum of two numbers of refusals is the larger of their statuses.
status_added : (m n : ℕ) → max (status_for m) (status_for n) ≡ status_for (m + n)
unfolding status_for
status_added zero zero = refl
status_added zero (suc n) = let e : suc n ≡ zero + suc n = omega arith in ap status_for e
status_added (suc m) zero = let e : suc m ≡ suc m + zero = omega arith in ap status_for e
status_added (suc m) (suc n) = let e : suc (m + suc n) ≡ suc m + suc n = omega arith in ap status_for e

-- Where some were refused the status is 1.
status_one : (refused : ℕ) → 0 < refused → status_for refused ≡ 1
unfolding status_for
status_one zero some = absurd (omega arith)
status_one (suc n) some = refl

-- Where none was refused the status is 0.
status_none : (refused : ℕ) → refused ≡ 0 → status_for refused ≡ 0
unfolding status_for
status_none zero none = refl
status_none (suc n) none = absurd (omega arith)

-- The program ends with the status for its number of refusals.
ends_with : (tally : Tally) (status : ℕ) → status ≡ status_for tally.refused → EndsWith tally status
ends_with tally status e =
    (λ none. (e ∙ status_none tally.refused none, refl), λ some. (e ∙ status_one tally.refused some, refl))

-- The largest of the statuses is the status for the sum of the refusals.
largest_is : (tallies : List Tally) (statuses : List ℕ) → AreMatched EndsWith tallies statuses →
    largest statuses ≡ status_for (sum_of tallies).refused
unfolding status_for
largest_is [] [] are = refl
largest_is [] (n ∷ statuses) are = absurd are
largest_is (t ∷ tallies) [] are = absurd are
largest_is (t ∷ tallies) (n ∷ statuses) are =
    ap₂ max (status_is t.refused n (λ none. (are.0.0 none).0) (λ some. (are.0.1 some).0))
    (largest_is tallies statuses are.1)
    ∙ status_added t.refused (sum_of tallies).refused

-- The largest of the parts' statuses is the status of the whole.
pub largest_status : (tallies : List Tally) (statuses : List ℕ) → AreMatched EndsWith tallies statuses →
    EndsWith (sum_of tallies) (largest statuses)
largest_status tallies statuses are = ends_with (sum_of tallies) (largest statuses) (largest_is tallies statuses are)
