-- How near a word of one Reed-Solomon block of ISO/IEC 16022, ECC 200, is to a codeword, where some of its places are
-- erased: what stands there isn't known.
use Rattle.std.specs.Prelude.{◌≡◌, ◌↔◌, ◌⊎◌, Bool, ℕ, suc, ◌+◌, ◌*◌, ◌<◌, ◌≤◌, if◌then◌else◌}
use Rattle.std.specs.Prelude.{List, [], ◌∷◌, length, slice_set}
use Rattle.dm_code.specs.Codeword.{IsCodeword, IsNear, distance}

-- A list says of each place of a word, from this one on, whether it is erased: these are the erased places, in
-- ascending order. The first place of a word is 0.
unfoldable pub erased_places_from : ℕ → List Bool → List ℕ
erased_places_from place [] = []
erased_places_from place (is_erased ∷ rest) =
    if is_erased then place ∷ erased_places_from (suc place) rest else erased_places_from (suc place) rest

-- The word has 0 at each of these places, and is the same elsewhere.
unfoldable pub blank : List ℕ → List ℕ → List ℕ
blank [] word = word
blank (place ∷ places) word = slice_set (blank places word) place 0

-- Another word differs from a word at this many places outside the erased ones: so many differ once both have 0 at
-- these.
abbrev pub distance_but : List ℕ → List ℕ → List ℕ → ℕ
distance_but places word other = distance (blank places word) (blank places other)

-- Another word is near to a word but for its erased places where it is a codeword of k checks and as long, and twice
-- the number of other places at which they differ, and the number of erased ones, are together at most k.
pub record IsNearBut (k : ℕ) (word places other : List ℕ) : Type 0 where
  pub codeword : IsCodeword k other
  pub long : length other ≡ length word
  pub close : 2 * distance_but places word other + length places ≤ k

-- At most one codeword is near to a word of at most 255 numbers but for erased places.
abbrev pub NearButIsOne : Type 0
NearButIsOne = (k : ℕ) (word places first second : List ℕ) → length word ≤ 255 → IsNearBut k word places first →
    IsNearBut k word places second → first ≡ second

-- Some codeword is near to a word of more than k and at most 255 numbers but for erased places, or none is.
abbrev pub NearButIsThereOrNot : Type 0
NearButIsThereOrNot =
    (k : ℕ) (word places : List ℕ) → k < length word → length word ≤ 255 →
    ((other : List ℕ) × IsNearBut k word places other) ⊎ ((other : List ℕ) → IsNearBut k word places other → ⊥)

-- With no place erased, a codeword is near to a word but for its erased places exactly where it is near to the word.
abbrev pub NearButNoneIsNear : Type 0
NearButNoneIsNear = (k : ℕ) (word other : List ℕ) → IsNearBut k word [] other ↔ IsNear k word other
