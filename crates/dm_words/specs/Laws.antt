-- What holds of all lists of codewords. Codewords and bytes are numbers of 0 to 255.
use Rattle.std.specs.Prelude.{◌≡◌, ℕ, ◌<◌, List, ◌∷◌, ◌++◌, ◌⊎◌, All, Some, length}
use Rattle.dm_words.specs.declared.extent.Extent.{Extent}
use Rattle.dm_words.specs.declared.extent.Extent.TheVariants.{Usual, Wide}
use Rattle.dm_words.specs.declared.item.Item.{Item}
use Rattle.dm_words.specs.declared.codeword.Codeword.TheVariants as codeword
use Rattle.dm_words.specs.declared.fault.WordFault.{WordFault}
use Rattle.dm_words.specs.declared.c40.set.CodeSet.{CodeSet}
use Rattle.dm_words.specs.Values.{IsRunValue, IsSpelling}
use Rattle.dm_words.specs.Codewords.{codeword_of}
use Rattle.dm_words.specs.Parts.{AreParts}
use Rattle.dm_words.specs.Spells.{Spells, Refused}

-- In the usual extent, the words spell exactly one message, and are refused with no fault.
pub record SpellsOnly (words : List ℕ) : Type 0 where
  pub message : List Item
  pub spells : Spells Usual words message
  pub only : (other : List Item) → Spells Usual words other → other ≡ message
  pub not_refused : (why : WordFault) → Refused words why → ⊥

-- In the usual extent, the words are refused with exactly one fault, and spell no message.
pub record RefusedOnly (words : List ℕ) : Type 0 where
  pub why : WordFault
  pub refused : Refused words why
  pub only : (other : WordFault) → Refused words other → other ≡ why
  pub not_spelled : (message : List Item) → Spells Usual words message → ⊥

-- In the usual extent, the words have one result: a message, or a fault.
abbrev pub HasOneResult : List ℕ → Type 0
HasOneResult words = SpellsOnly words ⊎ RefusedOnly words

-- The words are a macro of this digit and, behind it, parts with the items of this text.
pub record AreMacro (digit : ℕ) (words : List ℕ) (text : List Item) : Type 0 where
  pub word : ℕ
  pub more : List ℕ
  pub is_macro : codeword_of word ≡ Some (codeword.Macro digit)
  pub whole : words ≡ word ∷ more
  pub spelled : AreParts Wide 2 more text

-- Each of these codewords is 0 to 255.
abbrev pub AreCodewords : List ℕ → Type 0
AreCodewords words = All (λ word. word < 256) words

-- In an extent, some list of this many codewords spells this many items.
pub record SomeSpell (extent : Extent) (count items : ℕ) : Type 0 where
  pub words : List ℕ
  pub message : List Item
  pub counted : length words ≡ count
  pub codewords : AreCodewords words
  pub spells : Spells extent words message
  pub long : length message ≡ items

-- Each of these values of a run is 0 to 39.
abbrev pub AreRunValues : List ℕ → Type 0
AreRunValues values = All IsRunValue values

-- No whole spelling is a prefix of the values.
abbrev pub BeginsNoSpelling : CodeSet → List ℕ → Type 0
BeginsNoSpelling set values = (prefix more : List ℕ) (item : Item) → values ≡ prefix ++ more
    → IsSpelling set prefix item → ⊥
