-- Which data codewords begin no part, and with which fault, in each extent of reading. The words are all data codewords
-- of the symbol, each of 0 to 255, so their end is the end of the symbol. What is left out, and which fault is named,
-- are choices of this project.
use Rattle.std.specs.Prelude.{◌≡◌, ◌≢◌, ℕ, List, [], ◌∷◌, Some, None}
use Rattle.dm_words.specs.declared.extent.Extent.{Extent}
use Rattle.dm_words.specs.declared.extent.Extent.TheVariants.{Usual}
use Rattle.dm_words.specs.declared.fault.WordFault.{WordFault}
use Rattle.dm_words.specs.declared.fault.WordFault.TheVariants as fault
use Rattle.dm_words.specs.declared.codeword.Codeword.TheVariants as codeword
use Rattle.dm_words.specs.declared.c40.set.CodeSet.{CodeSet}
use Rattle.dm_words.specs.Codewords.{codeword_of}
use Rattle.dm_words.specs.RunFaults.{OpenRun, IsRunFault}
use Rattle.dm_words.specs.Base256.{IsFaultySegment}

-- The codewords from a place on, up to the end of the symbol, have this fault.
pub data IsFault (extent : Extent) (place : ℕ) (words : List ℕ) (why : WordFault) : Type 0 where
  -- A codeword is not used.
  reserved : (word : ℕ) (more : List ℕ) → codeword_of word ≡ None → words ≡ word ∷ more → why ≡ fault.Reserved place
      → IsFault extent place words why
  -- A codeword that can begin no part begins something that is not read: structured append, reader programming or ECI;
  -- a macro; in the usual extent EDIFACT. (What opens a content in the wide extent begins no part either, nor does ECI,
  -- of which `IsContentFault` speaks before.)
  left_out : (word : ℕ) (more : List ℕ) → codeword_of word ≡ Some codeword.LeftOut → words ≡ word ∷ more
      → why ≡ fault.LeftOut word place → IsFault extent place words why
  macro_behind : (word digit : ℕ) (more : List ℕ) → codeword_of word ≡ Some (codeword.Macro digit)
      → words ≡ word ∷ more → why ≡ fault.LeftOut word place → IsFault extent place words why
  edifact : (word : ℕ) (more : List ℕ) → extent ≡ Usual → codeword_of word ≡ Some codeword.Edifact
      → words ≡ word ∷ more → why ≡ fault.LeftOut word place → IsFault extent place words why
  -- An Upper Shift is the last codeword.
  unfinished : (word : ℕ) → codeword_of word ≡ Some codeword.UpperShift → words ≡ word ∷ [] → why
      ≡ fault.Unfinished place → IsFault extent place words why
  -- An Upper Shift stands before a codeword that is not a character.
  upper_shift : (shift word : ℕ) (more : List ℕ) → codeword_of shift ≡ Some codeword.UpperShift
      → ((byte : ℕ) → codeword_of word ≢ Some (codeword.Character byte))
      → words ≡ shift ∷ word ∷ more → why ≡ fault.UpperShift place → IsFault extent place words why
  faulty_run : (set : CodeSet) (run : OpenRun set words) → IsRunFault extent set place words run why
      → IsFault extent place words why
  faulty_segment : IsFaultySegment place words → why ≡ fault.Length place → IsFault extent place words why
