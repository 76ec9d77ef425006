-- The polynomial 1.
use Rattle.std.specs.Prelude.{◌≡◌, ℕ, ◌<◌, List}
use Rattle.gf301.specs.Polynomial.{coefficient}

-- A list, the lowest power first, is the polynomial 1: its first coefficient is 1, and all others are 0.
pub record IsOne (p : List ℕ) : Type 0 where
  pub one : coefficient p 0 ≡ 1
  pub zeros : (i : ℕ) → 0 < i → coefficient p i ≡ 0
