-- The parts of data codewords that say items, in each extent of reading (ISO/IEC 16022, encodation schemes). The words
-- are all data codewords of the symbol, each of 0 to 255, so their end is the end of the symbol. The extents, `Usual`
-- and `Wide`, are a choice of this project.
use Rattle.std.specs.Prelude.{◌≡◌, ℕ, List, [], ◌∷◌, ◌++◌, Some}
use Rattle.dm_words.specs.declared.extent.Extent.{Extent}
use Rattle.dm_words.specs.declared.extent.Extent.TheVariants.{Wide}
use Rattle.dm_words.specs.declared.item.Item.{Item}
use Rattle.dm_words.specs.declared.codeword.Codeword.TheVariants as codeword
use Rattle.dm_words.specs.declared.c40.set.CodeSet.{CodeSet}
use Rattle.dm_words.specs.Codewords.{codeword_of}
use Rattle.dm_words.specs.Joined.{Piece, spelled, gathered, AreJoined}
use Rattle.dm_words.specs.Ascii.{IsAsciiUnit}
use Rattle.dm_words.specs.Runs.{IsRun}
use Rattle.dm_words.specs.Base256.{IsSegment}
use Rattle.dm_words.specs.Edifact.{IsEdifactRun}

-- A part of the codewords is a unit of ASCII, a run, a segment of Base 256, or in the wide extent a run of EDIFACT, and
-- spells its items. It begins
-- at a place; `after` are all codewords that follow it, up to the end of the symbol, including pads.
pub data IsPart (extent : Extent) (place : ℕ) (words after : List ℕ) (items : List Item) : Type 0 where
  ascii : IsAsciiUnit words items → IsPart extent place words after items
  run : (set : CodeSet) → IsRun extent set words after items → IsPart extent place words after items
  segment : IsSegment place words after items → IsPart extent place words after items
  edifact : extent ≡ Wide → IsEdifactRun words after items → IsPart extent place words after items

-- The message ends where no codeword is left, or where a pad comes next. What follows that pad is ignored, by a rule of
-- this
-- project.
pub data IsEnd (words : List ℕ) : Type 0 where
  nothing : words ≡ [] → IsEnd words
  pad : (word : ℕ) (more : List ℕ) → codeword_of word ≡ Some codeword.Pad → words ≡ word ∷ more → IsEnd words

-- The words from a place on, up to the end of the symbol, are parts, one after the other, and then an end; the parts,
-- joined, have these items.
pub record AreParts (extent : Extent) (place : ℕ) (words : List ℕ) (items : List Item) : Type 0 where
  pub parts : List (Piece (List Item))
  pub after : List ℕ
  pub joined : AreJoined (IsPart extent) place parts after
  pub ended : IsEnd after
  pub whole : words ≡ spelled parts ++ after
  pub items_are : items ≡ gathered parts
