-- EDIFACT encodation (ISO/IEC 16022, EDIFACT encodation).
use Rattle.std.specs.Prelude.{◌≡◌, ◌≢◌, ℕ, ◌+◌, ◌*◌, ◌<◌, ◌≤◌, List, [], ◌∷◌, ◌++◌, length, map, Some, nat_lt}
use Rattle.std.specs.Prelude.{if◌then◌else◌}
use Rattle.std.specs.List.{AllByRecursion}
use Rattle.dm_words.specs.declared.item.Item.{Item}
use Rattle.dm_words.specs.declared.item.Item.TheVariants.{Byte}
use Rattle.dm_words.specs.declared.codeword.Codeword.TheVariants as codeword
use Rattle.dm_words.specs.Codewords.{codeword_of}
use Rattle.dm_words.specs.Joined.{Piece, spelled, gathered}

-- A group is three codewords for four values of six bits each. The number of the codewords, high byte first, is the
-- number of the values, first value highest.
pub record IsGroup (words values : List ℕ) : Type 0 where
  pub high : ℕ
  pub middle : ℕ
  pub low : ℕ
  pub middle_is_byte : middle < 256
  pub low_is_byte : low < 256
  pub first : ℕ
  pub second : ℕ
  pub third : ℕ
  pub fourth : ℕ
  pub first_small : first < 64
  pub second_small : second < 64
  pub third_small : third < 64
  pub fourth_small : fourth < 64
  pub number : 65536 * high + 256 * middle + low ≡ 262144 * first + 4096 * second + 64 * third + fourth
  pub words_are : words ≡ high ∷ middle ∷ low ∷ []
  pub values_are : values ≡ first ∷ second ∷ third ∷ fourth ∷ []

-- A run ends in one of these ways, each with its codewords and the values before the unlatch, if it has one; `after`
-- are the codewords that follow, up to the end of the symbol, including pads. Where a group begins, three codewords or
-- more are left in the symbol. That the bits behind an unlatch aren't looked at, and that a run may be empty, are rules
-- of this project.
pub data IsEdifactEnd (words after values : List ℕ) : Type 0 where
  -- At most two codewords are left in the symbol, where a group would begin. They are read in ASCII.
  few_left : words ≡ [] → values ≡ [] → length after ≤ 2 → IsEdifactEnd words after values
  -- The unlatch is the first value of a group, and takes one codeword of eight bits: the unlatch has the six highest,
  -- and the two lowest, `rest`, aren't looked at. At least two codewords follow.
  first : (word rest : ℕ) → word ≡ 4 * 31 + rest → rest < 4 → words ≡ word ∷ [] → values ≡ []
      → 2 ≤ length after → IsEdifactEnd words after values
  -- The unlatch is the second value of a group, and takes two codewords of sixteen bits, high byte first: the value
  -- before it has the six highest, the unlatch has six, and the four lowest, `rest`, aren't looked at. At least one
  -- codeword follows.
  second : (high low value rest : ℕ) → low < 256 → value < 64
      → 256 * high + low ≡ 1024 * value + 16 * 31 + rest → rest < 16 → words ≡ high ∷ low ∷ []
      → values ≡ value ∷ [] → 1 ≤ length after → IsEdifactEnd words after values
  -- The unlatch is the third value of a group, and takes three codewords; the fourth value, `rest`, isn't looked at.
  third : (one two rest : ℕ) → IsGroup words (one ∷ two ∷ 31 ∷ rest ∷ []) → values ≡ one ∷ two ∷ []
      → IsEdifactEnd words after values
  -- The unlatch is the fourth value of a group, and takes three codewords.
  fourth : (one two three : ℕ) → IsGroup words (one ∷ two ∷ three ∷ 31 ∷ [])
      → values ≡ one ∷ two ∷ three ∷ [] → IsEdifactEnd words after values

-- A run is a latch, then whole groups, then an end. No value is the unlatch, 31, but the one that ends the run. The
-- values, joined, stand for the bytes of the items: 0 to 30 for 64 to 94, and 32 to 63 for themselves.
pub record IsEdifactRun (words after : List ℕ) (items : List Item) : Type 0 where
  pub latch : ℕ
  pub is_latch : codeword_of latch ≡ Some codeword.Edifact
  pub groups : List (Piece (List ℕ))
  pub each : AllByRecursion (λ piece. IsGroup piece.words piece.what) groups
  pub end : List ℕ
  pub last : List ℕ
  pub ended : IsEdifactEnd end after last
  pub no_unlatch : AllByRecursion (λ value. value ≢ 31) (gathered groups ++ last)
  pub whole : words ≡ latch ∷ (spelled groups ++ end)
  pub items_are :
      items ≡ map Byte (map (λ value. if nat_lt value 31 then value + 64 else value) (gathered groups ++ last))
