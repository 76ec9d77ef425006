-- Systems of linear equations over the field. An equation is a row of coefficients, one for each unknown; the sum of
-- their products with the unknowns is 0. The last unknown is 1.
use Rattle.std.specs.Prelude.{◌≡◌, ℕ, zero, suc, ◌+◌, ◌<◌, List, [], get_or, length}
use Rattle.gf301.specs.Field.{◌⊕◌, ◌⊗◌}
use Rattle.gf301.specs.Polynomial.{coefficient}

-- The products of two series at the n places from `first` on are added.
unfoldable pub dot : (ℕ → ℕ) → (ℕ → ℕ) → ℕ → ℕ → ℕ
dot f v first zero = 0
dot f v first (suc n) = f first ⊗ v first ⊕ dot f v (suc first) n

-- The coefficients of row k are those of the list at this place, and row k is 0 everywhere if there is none.
abbrev pub row : List (List ℕ) → ℕ → ℕ → ℕ
row rows k = coefficient (get_or rows k [])

-- A series v solves the rows in the n + 1 unknowns from the place `first` on, of which the last is 1.
pub record Solves (rows : List (List ℕ)) (first n : ℕ) (v : ℕ → ℕ) : Type 0 where
  pub last : v (first + n) ≡ 1
  pub each : (k : ℕ) → k < length rows → dot (row rows k) v first (suc n) ≡ 0

-- Nothing solves the rows in the n + 1 unknowns from the place `first` on.
abbrev pub Unsolvable : List (List ℕ) → ℕ → ℕ → Type 0
Unsolvable rows first n = (v : ℕ → ℕ) → Solves rows first n v → ⊥
