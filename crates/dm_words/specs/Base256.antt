-- Base 256 encodation (ISO/IEC 16022, Base 256 encodation and its 255-state randomising).
use Rattle.std.specs.Prelude.{◌≡◌, ◌≢◌, ℕ, ◌+◌, ◌-◌, ◌*◌, ◌%◌, ◌<◌, ◌≤◌, List, [], ◌∷◌, ◌++◌, length, map, Some}
use Rattle.std.specs.List.{AllByRecursion}
use Rattle.dm_words.specs.declared.item.Item.{Item}
use Rattle.dm_words.specs.declared.item.Item.TheVariants.{Byte}
use Rattle.dm_words.specs.declared.codeword.Codeword.TheVariants as codeword
use Rattle.dm_words.specs.Codewords.{codeword_of}

-- A value is written as this codeword at a place of the symbol, which counts all data codewords from 1: a pseudo-random
-- number of the place is added.
abbrev pub randomised : ℕ → ℕ → ℕ
randomised place value = (value + ((149 * place) % 255 + 1)) % 256

-- Values are written as these codewords, the first of which stands at a place.
abbrev pub written : ℕ → List ℕ → List ℕ
written place [] = []
written place (value ∷ values) = randomised place value ∷ written (place + 1) values

-- A length field for `count` bytes is the one number 0, for all bytes up to the end of the symbol; or one number of 1
-- to 249, which is the count itself; or a first number of 250 to 255 and a second one of 0 to 249. `after` are the
-- codewords after those bytes.
pub data IsLengthField (field : List ℕ) (count : ℕ) (after : List ℕ) : Type 0 where
  to_the_end : field ≡ 0 ∷ [] → after ≡ [] → IsLengthField field count after
  short : (first : ℕ) → 0 < first → first ≤ 249 → field ≡ first ∷ [] → count ≡ first → IsLengthField field count after
  long : (first second : ℕ) → 249 < first → first < 256 → second ≤ 249 → field ≡ first ∷ second ∷ []
      → count ≡ 250 * (first - 249) + second → IsLengthField field count after

-- A segment is a latch, which stands at this place, a length field, and as many bytes as that says. Each byte is 0 to
-- 255.
pub record IsSegment (place : ℕ) (words after : List ℕ) (items : List Item) : Type 0 where
  pub latch : ℕ
  pub is_latch : codeword_of latch ≡ Some codeword.Base256
  pub field : List ℕ
  pub bytes : List ℕ
  pub in_range : AllByRecursion (λ byte. byte < 256) bytes
  pub counted : IsLengthField field (length bytes) after
  pub whole : words ≡ latch ∷ written (place + 1) (field ++ bytes)
  pub items_are : items ≡ map Byte bytes

-- A faulty segment is a latch at a place and all codewords after it up to the end of the symbol, where no segment
-- begins: their values don't begin with a whole length field and as many bytes as it says.
pub record IsFaultySegment (place : ℕ) (words : List ℕ) : Type 0 where
  pub latch : ℕ
  pub is_latch : codeword_of latch ≡ Some codeword.Base256
  pub values : List ℕ
  pub in_range : AllByRecursion (λ value. value < 256) values
  pub whole : words ≡ latch ∷ written (place + 1) values
  pub no_segment : (first after : List ℕ) (items : List Item) → IsSegment place first after items
      → words ≢ first ++ after
