-- Lists from the last number to the first.
use Rattle.std.specs.Prelude.{◌≡◌, ℕ, suc, ◌-◌, ◌<◌, ◌≤◌, List, length}
use Rattle.gf301.specs.Polynomial.{coefficient}

-- A list has the numbers of another one from the last to the first, and then zeros.
pub record IsBackwards (list back : List ℕ) : Type 0 where
  pub each : (i : ℕ) → i < length list → coefficient back (length list - suc i) ≡ coefficient list i
  pub zeros : (i : ℕ) → length list ≤ i → coefficient back i ≡ 0
