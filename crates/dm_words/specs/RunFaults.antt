-- What is wrong with a run of C40, Text or X12, and at which place. Which of several faults is named, and its place,
-- are rules of this project.
use Rattle.std.specs.Prelude.{◌≡◌, ◌≢◌, ℕ, ◌+◌, ◌*◌, ◌/◌, ◌<◌, List, ◌∷◌, ◌++◌, length, ◌⊎◌, Some, None, Bool}
use Rattle.std.specs.Prelude.{true, false}
use Rattle.std.specs.List.{AllByRecursion}
use Rattle.dm_words.specs.declared.extent.Extent.{Extent}
use Rattle.dm_words.specs.declared.extent.Extent.TheVariants.{Usual}
use Rattle.dm_words.specs.declared.item.Item.{Item}
use Rattle.dm_words.specs.declared.fault.WordFault.{WordFault}
use Rattle.dm_words.specs.declared.fault.WordFault.TheVariants as fault
use Rattle.dm_words.specs.declared.codeword.Codeword.TheVariants as codeword
use Rattle.dm_words.specs.declared.c40.set.CodeSet.{CodeSet}
use Rattle.dm_words.specs.declared.c40.set.Shifted.TheVariants as shifted
use Rattle.dm_words.specs.Codewords.{codeword_of}
use Rattle.dm_words.specs.Joined.{Piece, spelled, gathered}
use Rattle.dm_words.specs.Values.{IsSpelling, IsFiller, IsWaiting, BeginsShifted}
use Rattle.dm_words.specs.Runs.{IsPair, IsRunEnd}

-- No further good pair follows: the codewords, up to the end of the symbol, begin with the end of the run; or, where
-- `bad`, with a bad pair, whose number is 0 or more than 64000. No pair begins with the unlatch.
pub data StopsPairs (bad : Bool) (words : List ℕ) : Type 0 where
  run_end : (end after : List ℕ) → bad ≡ false → IsRunEnd end after → words ≡ end ++ after → StopsPairs bad words
  bad_pair : (high low : ℕ) (more : List ℕ) → bad ≡ true → high ≢ 254
      → (256 * high + low ≡ 0) ⊎ (64000 < 256 * high + low) → words ≡ high ∷ low ∷ more → StopsPairs bad words

-- An open run is a run as far as its good pairs go: a latch and the pairs, up to the end of the run or up to the first
-- bad pair. The values of the pairs, joined, are whole spellings and a rest. `words` are all codewords from the latch
-- to the end of the symbol.
pub record OpenRun (set : CodeSet) (words : List ℕ) : Type 0 where
  pub latch : ℕ
  pub is_latch : codeword_of latch ≡ Some (codeword.Latch set)
  pub pairs : List (Piece (List ℕ))
  pub each : AllByRecursion (λ piece. IsPair piece.words piece.what) pairs
  pub others : List ℕ
  pub bad : Bool
  pub stopped : StopsPairs bad others
  pub whole : words ≡ latch ∷ (spelled pairs ++ others)
  pub spellings : List (Piece Item)
  pub each_spelling : AllByRecursion (λ piece. IsSpelling set piece.words piece.what) spellings
  pub rest : List ℕ
  pub values : gathered pairs ≡ spelled spellings ++ rest

-- The place of the pair that holds the value at an index, where the values of the run are counted from 0. The latch
-- stands at `place`.
abbrev pub pair_place : ℕ → ℕ → ℕ
pair_place place index = place + 1 + 2 * (index / 3)

-- An open run whose latch stands at a place has this fault: that of its first wrong value; if no value is wrong, that
-- of a bad pair; and if there is none, in the usual extent, that of an Upper Shift that still waits for its character.
pub data IsRunFault (extent : Extent) (set : CodeSet) (place : ℕ) (words : List ℕ) (run : OpenRun set words)
    (why : WordFault) : Type 0 where
  -- A value has no meaning after its shift.
  value : (index : ℕ) → BeginsShifted set run.rest None index
      → why ≡ fault.Value (pair_place place (length (spelled run.spellings) + index))
      → IsRunFault extent set place words run why
  -- An Upper Shift stands directly before FNC1 or another Upper Shift, which is a fault by a rule of this project; the
  -- fault names the pair of its second value, 30.
  upper_shift : BeginsShifted set run.rest (Some shifted.Fnc1) 3
      ⊎ BeginsShifted set run.rest (Some shifted.UpperShift) 3
      → why ≡ fault.UpperShift (pair_place place (length (spelled run.spellings) + 1))
      → IsRunFault extent set place words run why
  -- The codewords behind the pairs begin with a bad pair.
  triplet : IsFiller set run.rest ⊎ IsWaiting set run.rest → run.bad ≡ true
      → why ≡ fault.Triplet (place + 1 + length (spelled run.pairs)) → IsRunFault extent set place words run why
  -- An Upper Shift waits where the run ends, which is a fault in the usual extent; the fault names the pair of its
  -- second value, 30.
  unfinished : extent ≡ Usual → IsWaiting set run.rest → run.bad ≡ false
      → why ≡ fault.Unfinished (pair_place place (length (spelled run.spellings) + 1))
      → IsRunFault extent set place words run why
