-- Tables of meanings, given by their rows.
use Rattle.std.specs.Prelude.{◌≡◌, ℕ, ◌+◌, ◌-◌, ◌<◌, ◌≤◌, List, [], ◌∷◌, Option, Some, None, nat_le, ◌==◌, ◌&&◌}
use Rattle.std.specs.Prelude.{if◌then◌else◌, All}

-- A row of a table gives one number or several numbers their meaning.
pub data Row (M : Type 0) : Type 0 where
  -- This number means this.
  one : (number : ℕ) (meaning : M) → Row M
  -- The numbers from `first` to `last` mean this of the numbers from `low` to `high`, one by one.
  each : (first last low high : ℕ) (meaning : ℕ → M) → Row M

module _ {M : Type 0} where
  -- A number means what the first row that has it says; where no row has it, this is `None`.
  abbrev pub look_up : List (Row M) → ℕ → Option M
  look_up [] sought = None
  look_up (one number meaning ∷ rows) sought = if sought == number then Some meaning else look_up rows sought
  look_up (each first last low high meaning ∷ rows) sought =
      if nat_le first sought && nat_le sought last then Some (meaning (low + (sought - first))) else look_up rows sought

  -- A row has as many numbers as it has meanings.
  abbrev pub IsBalanced : Row M → Type 0
  IsBalanced (one number meaning) = Unit {0}
  IsBalanced (each first last low high meaning) = (first ≤ last) × (first + high ≡ last + low)

  -- A row begins with this number.
  abbrev pub first_number : Row M → ℕ
  first_number (one number meaning) = number
  first_number (each first last low high meaning) = first

  -- A row ends with this number.
  abbrev pub last_number : Row M → ℕ
  last_number (one number meaning) = number
  last_number (each first last low high meaning) = last

  -- Each row begins above the last number of the row before it, so no number stands in two rows.
  abbrev pub AreRising : List (Row M) → Type 0
  AreRising [] = Unit {0}
  AreRising (row ∷ []) = Unit {0}
  AreRising (row ∷ next ∷ rows) = (last_number row < first_number next) × AreRising (next ∷ rows)

  -- Each row has as many numbers as meanings, and no number stands in two rows.
  pub record IsTable (rows : List (Row M)) : Type 0 where
    pub balanced : All IsBalanced rows
    pub rising : AreRising rows
