-- Words of which places are weighed away: by the locator of the places, whose roots are their own locators. A place's
-- own locator is 2 to the power of the number of places after it.
use Rattle.std.specs.Prelude.{◌≡◌, ◌≢◌, ℕ, suc, ◌-◌, ◌<◌, ◌≤◌, List, [], ◌∷◌, length, get_or}
use Rattle.gf301.specs.Field.{◌⊗◌, power}
use Rattle.gf301.specs.Polynomial.{value, times}
use Rattle.std.specs.List.{All}
use Rattle.dm_code.specs.Codeword.{IsCodeword}
use Rattle.dm_code.specs.inner.OddTerms.{odd_part}

-- The locator of some places of a word of n numbers is the product of x - r for the locator r of each of them, the
-- highest power first.
unfoldable pub places_locator : ℕ → List ℕ → List ℕ
places_locator n [] = 1 ∷ []
places_locator n (place ∷ places) = times (1 ∷ power (n - suc place) ∷ []) (places_locator n places)

-- Each of the places comes before those behind it.
abbrev pub IsAscending : List ℕ → Type 0
IsAscending places = (i j : ℕ) → i < j → j < length places → get_or places i 0 < get_or places j 0

-- A list has at e, for each e below n, the value of a polynomial at 2 to the power e, which is the locator of the place
-- with e places after it.
abbrev pub AreValues : List ℕ → ℕ → List ℕ → Type 0
AreValues polynomial n values = (e : ℕ) → e < n → get_or values e 0 ≡ value polynomial (power e)

-- A list has there the sum of its terms of odd powers.
abbrev pub AreOddParts : List ℕ → ℕ → List ℕ → Type 0
AreOddParts polynomial n sums = (e : ℕ) → e < n → get_or sums e 0 ≡ odd_part polynomial (power e)

-- A word is as long as another one, and has, at each place, what that has there times the place's weight, which stands
-- at the number of places after it.
pub record IsWeighed (weights word less : List ℕ) : Type 0 where
  pub long : length less ≡ length word
  pub each : (i : ℕ) → i < length word → get_or less i 0 ≡
      get_or word i 0 ⊗ get_or weights (length word - suc i) 0

-- A word has what another one has, wherever there is none of some places.
abbrev pub IsSameBut : List ℕ → List ℕ → List ℕ → Type 0
IsSameBut places word other = (i : ℕ) → ((j : ℕ) → j < length places → get_or places j 0 ≢ i) →
    get_or word i 0 ≡ get_or other i 0

-- A codeword of k checks has these places, in ascending order and at most as many as checks.
pub record HasPlaces (k : ℕ) (places word : List ℕ) : Type 0 where
  pub codeword : IsCodeword k word
  pub few : length places ≤ k
  pub within : All (λ p. p < length word) places
  pub ascending : IsAscending places
