-- ECI designators (ISO/IEC 16022, ECI encodation): the codewords that say the number of an ECI assignment.
use Rattle.std.specs.Prelude.{◌≡◌, ℕ, ◌+◌, ◌-◌, ◌*◌, ◌/◌, ◌%◌, ◌≤◌, List, [], ◌∷◌, nat_lt, if◌then◌else◌}

-- ECI is this codeword, and a designator stands behind it.
abbrev pub eci_word : ℕ
eci_word = 241

-- The largest number of an assignment is this one.
abbrev pub most_assigned : ℕ
most_assigned = 999999

-- A designator says a number of 0 to 999999 by one codeword of 1 to 127, by one of 128 to 191 and one of 1 to 254, or
-- by one of 192 to 207 and two of 1 to 254. So each of these numbers has exactly one designator.
pub data IsDesignator (words : List ℕ) (number : ℕ) : Type 0 where
  one : (first : ℕ) → 1 ≤ first → first ≤ 127 → words ≡ first ∷ [] → number ≡ first - 1 → IsDesignator words number
  two : (first second : ℕ) → 128 ≤ first → first ≤ 191 → 1 ≤ second → second ≤ 254 → words ≡ first ∷ second ∷ []
      → number ≡ (first - 128) * 254 + 127 + (second - 1) → IsDesignator words number
  three : (first second third : ℕ) → 192 ≤ first → first ≤ 207 → 1 ≤ second → second ≤ 254 → 1 ≤ third → third ≤ 254
      → words ≡ first ∷ second ∷ third ∷ []
      → number ≡ (first - 192) * 64516 + 16383 + (second - 1) * 254 + (third - 1) → number ≤ most_assigned
      → IsDesignator words number

-- The designator of a number of 0 to 999999 is this one.
abbrev pub designator : ℕ → List ℕ
designator number =
    if nat_lt number 127 then (number + 1) ∷ [] else
    if nat_lt number 16383 then (128 + (number - 127) / 254) ∷ (1 + (number - 127) % 254) ∷ [] else
    (192 + (number - 16383) / 64516) ∷ (1 + (number - 16383) / 254 % 254) ∷ (1 + (number - 16383) % 254) ∷ []
