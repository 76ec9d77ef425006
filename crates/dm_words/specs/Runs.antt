-- Runs of C40, Text and X12 (ISO/IEC 16022, C40, Text and ANSI X12 encodation).
use Rattle.std.specs.Prelude.{◌≡◌, ◌≢◌, ℕ, ◌+◌, ◌*◌, ◌<◌, List, [], ◌∷◌, ◌++◌, Some, ◌⊎◌, map}
use Rattle.std.specs.List.{AllByRecursion}
use Rattle.dm_words.specs.declared.extent.Extent.{Extent}
use Rattle.dm_words.specs.declared.extent.Extent.TheVariants.{Wide}
use Rattle.dm_words.specs.declared.item.Item.{Item}
use Rattle.dm_words.specs.declared.codeword.Codeword.TheVariants as codeword
use Rattle.dm_words.specs.declared.c40.set.CodeSet.{CodeSet}
use Rattle.dm_words.specs.Codewords.{codeword_of}
use Rattle.dm_words.specs.Joined.{Piece, spelled, gathered}
use Rattle.dm_words.specs.Values.{IsSpelling, IsFiller, IsWaiting}

-- A pair is two codewords for three values, each below 40. Their number, high and low byte, is 1600 times the first
-- value, plus 40 times the
-- second, plus the third, plus 1; so it is 1 to 64000.
pub record IsPair (words values : List ℕ) : Type 0 where
  pub high : ℕ
  pub low : ℕ
  pub is_byte : low < 256
  pub first : ℕ
  pub second : ℕ
  pub third : ℕ
  pub first_small : first < 40
  pub second_small : second < 40
  pub third_small : third < 40
  pub number : 256 * high + low ≡ 1600 * first + 40 * second + third + 1
  pub words_are : words ≡ high ∷ low ∷ []
  pub values_are : values ≡ first ∷ second ∷ third ∷ []

-- A run ends in one of these ways, each with its codewords; `after` are the codewords that follow these, up to the end
-- of the symbol. The comments
-- name the cases of the standard for the end of the symbol (ISO/IEC 16022, C40 encodation). They hold in the same way
-- for Text; for X12 cases a, c and
-- d do, and case b doesn't, since X12 has no shift to fill a pair with.
pub data IsRunEnd (words after : List ℕ) : Type 0 where
  -- The codeword Unlatch, 254, ends the run. Where one codeword is left behind it, for one last value, this is case c;
  -- none needs to be left.
  unlatch : words ≡ 254 ∷ [] → IsRunEnd words after
  -- No codeword ends the run where none is left in the symbol. These are cases a and b, by the number of values that
  -- are left for the last pair; a run
  -- without pairs ends so too, by a rule of this project.
  symbol_end : words ≡ [] → after ≡ [] → IsRunEnd words after
  -- No codeword ends the run where one other than Unlatch is left in the symbol: an Unlatch before it is assumed, and
  -- it is read in ASCII. This is case d.
  last_word : (word : ℕ) → word ≢ 254 → words ≡ [] → after ≡ word ∷ [] → IsRunEnd words after

-- A run is a latch, then pairs, then an end. The values of all pairs, joined, are spellings of these items, one after
-- the other, and then what is dropped: a filler; in the wide extent also an Upper Shift that waits, which some writers
-- fill with.
pub record IsRun (extent : Extent) (set : CodeSet) (words after : List ℕ) (items : List Item) : Type 0 where
  pub latch : ℕ
  pub is_latch : codeword_of latch ≡ Some (codeword.Latch set)
  pub pairs : List (Piece (List ℕ))
  pub each : AllByRecursion (λ piece. IsPair piece.words piece.what) pairs
  pub end : List ℕ
  pub ended : IsRunEnd end after
  pub whole : words ≡ latch ∷ (spelled pairs ++ end)
  pub spellings : List (Piece Item)
  pub each_spelling : AllByRecursion (λ piece. IsSpelling set piece.words piece.what) spellings
  pub filler : List ℕ
  pub dropped : IsFiller set filler ⊎ ((extent ≡ Wide) × IsWaiting set filler)
  pub values : gathered pairs ≡ spelled spellings ++ filler
  pub items_are : items ≡ map (λ piece. piece.what) spellings
