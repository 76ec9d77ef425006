-- Plain codewords: each part says something, and nothing stands in them that means nothing. Readers of the field differ
-- on empty runs, fillers and macros that don't stand first, so nothing is written with them; that is a rule of this
-- project.
use Rattle.std.specs.Prelude.{◌≡◌, ◌≢◌, ℕ, ◌<◌, ◌≤◌, List, [], ◌∷◌, ◌++◌, length}
use Rattle.dm_words.specs.declared.c40.set.CodeSet.{CodeSet}
use Rattle.dm_words.specs.declared.extent.Extent.TheVariants.{Usual, Wide}
use Rattle.dm_words.specs.declared.item.Item.{Item}
use Rattle.dm_words.specs.declared.contents.opening.Opening.{Opening}
use Rattle.dm_words.specs.declared.contents.opening.Opening.TheVariants.{Framed}
use Rattle.dm_words.specs.Ascii.{IsAsciiUnit}
use Rattle.dm_words.specs.Base256.{IsSegment}
use Rattle.dm_words.specs.Designators.{eci_word, IsDesignator}
use Rattle.dm_words.specs.Edifact.{IsEdifactRun}
use Rattle.dm_words.specs.Joined.{Piece, spelled, AreJoined}
use Rattle.dm_words.specs.Contents.{ContentView, Said, Items, Number, AreOpened, AreFrame}
use Rattle.dm_words.specs.Macros.{FramesFnc1}
use Rattle.dm_words.specs.Pads.{padded}
use Rattle.dm_words.specs.Runs.{IsRun}
use Rattle.dm_words.specs.Parts.{IsEnd}
use Rattle.dm_words.specs.Symbology.{KeepsIdentifier}

-- A plain part is a unit of ASCII; or a run or a segment of some items. All values of a run of C40, Text or X12 spell
-- items: it has no filler, and in the usual extent no Upper Shift waits.
pub data IsPlainPart (place : ℕ) (words after : List ℕ) (items : List Item) : Type 0 where
  ascii : IsAsciiUnit words items → IsPlainPart place words after items
  run : (set : CodeSet) → (is : IsRun Usual set words after items) → is.filler ≡ [] → 0 < length items
      → IsPlainPart place words after items
  segment : IsSegment place words after items → 0 < length items → IsPlainPart place words after items
  edifact : IsEdifactRun words after items → 0 < length items → IsPlainPart place words after items

-- A plain part of a content says items so, or is ECI and a designator.
pub data IsPlainSaid (place : ℕ) (words after : List ℕ) (said : Said) : Type 0 where
  part : (items : List Item) → IsPlainPart place words after items → said ≡ Items items
      → IsPlainSaid place words after said
  mark : (designator : List ℕ) (number : ℕ) → IsDesignator designator number → words ≡ eci_word ∷ designator
      → said ≡ Number number → IsPlainSaid place words after said

-- The words are plain: a head, a macro or neither, plain parts, and an end. A macro is the first codeword.
pub record ArePlain (words : List ℕ) : Type 0 where
  pub opening : Opening
  pub place : ℕ
  pub more : List ℕ
  pub opened : AreOpened Wide words opening place more
  pub macro_first : (digit : ℕ) → opening ≡ Framed digit → place ≡ 2
  pub parts : List (Piece Said)
  pub after : List ℕ
  pub joined : AreJoined IsPlainSaid place parts after
  pub ended : IsEnd after
  pub whole : more ≡ spelled parts ++ after

-- The words have no macro before FNC1, where they say these items: FNC1 would be the second codeword there, which
-- readers take for a sign. That another way is taken is a rule of this project.
abbrev pub FramesNoFnc1 : List ℕ → List Item → Type 0
FramesNoFnc1 words items = FramesFnc1 items → (frame rest : List ℕ) (digit : ℕ) → AreFrame frame digit
    → words ≢ frame ++ rest

-- The words say the content as words that are written do: they are plain, have the identifier of its ASCII form, and no
-- macro before FNC1.
pub record IsPlainForm (words : List ℕ) (content : ContentView) : Type 0 where
  pub plain : ArePlain words
  pub identifier : KeepsIdentifier words content
  pub framed : FramesNoFnc1 words content.items

-- With pads up to any count of codewords behind them, or none, the words say the content so.
abbrev pub IsPlainWithPads : List ℕ → ContentView → Type 0
IsPlainWithPads words content = (count : ℕ) → length words ≤ count → IsPlainForm (padded words count) content
