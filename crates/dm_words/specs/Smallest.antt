-- The smallest symbol of a content: data codewords that say it in an extent, in a size of a choice, where no smaller
-- size of the choice has any that do. This is said by what codewords say, and by all lists of codewords that a size
-- has; how such codewords are found is no part of it. A content with a head or a mark has none in the usual extent,
-- where nothing says it.
use Rattle.std.specs.Prelude.{◌≡◌, ℕ, ◌+◌, ◌-◌, ◌<◌, ◌≤◌, List, [], length, take, Result, Ok, Err, IfOk, OnOk, IsErr}
use Rattle.std.specs.Prelude.{true, ◌⊎◌}
use Rattle.dm_layout.specs.declared.symbols.size.SizeChoice.{SizeChoice}
use Rattle.dm_layout.specs.symbols.Sizes.{SizeEntry, IsSize, takes, area}
use Rattle.dm_words.specs.declared.extent.Extent.{Extent}
use Rattle.dm_words.specs.declared.extent.Extent.TheVariants.{Usual}
use Rattle.dm_words.specs.declared.item.Item.{Item}
use Rattle.dm_words.specs.declared.fault.TooLong.{TooLong}
use Rattle.dm_words.specs.declared.profile.Profile.TheVariants.{Ascii}
use Rattle.dm_words.specs.Contents.{ContentView, Says}
use Rattle.dm_words.specs.ContentForm.{content_form}
use Rattle.dm_words.specs.ContentExtents.{as_content}
use Rattle.dm_words.specs.Pads.{pads, padded}
use Rattle.dm_words.specs.Plain.{FramesNoFnc1, IsPlainForm}

-- The size stands in the table, and the choice takes it.
abbrev pub IsTaken : SizeChoice → SizeEntry → Type 0
IsTaken choice size = IsSize size × (takes choice size ≡ true)

-- A size is smaller than another if it has fewer modules, or as many and fewer columns. That areas and then columns are
-- compared is a rule of this project.
abbrev pub IsSmaller : SizeEntry → SizeEntry → Type 0
IsSmaller size other = (area size < area other) ⊎ ((area size ≡ area other) × (size.columns < other.columns))

-- The words are the smallest for a content in an extent, in a size of a choice: they are as many as it has data
-- codewords and say the content there, as words that are written do, and no list of the data codewords of a smaller
-- size of the choice says it, but for those that have a macro before FNC1.
pub record IsSmallestContentFor (extent : Extent) (choice : SizeChoice) (size : SizeEntry) (words : List ℕ)
    (content : ContentView) : Type 0 where
  pub says : Says extent words content
  pub taken : IsTaken choice size
  pub sized : length words ≡ size.data_count
  pub form : IsPlainForm words content
  pub smallest : (smaller : SizeEntry) (other : List ℕ) → IsTaken choice smaller → IsSmaller smaller size
      → length other ≡ smaller.data_count → FramesNoFnc1 other content.items → Says extent other content → ⊥

-- They are the smallest for a message if they are for it as a content.
abbrev pub IsSmallestFor : Extent → SizeChoice → SizeEntry → List ℕ → List Item → Type 0
IsSmallestFor extent choice size words message = IsSmallestContentFor extent choice size words (as_content message)

-- The data codewords of no size of the choice say the content in an extent, but for those that have a macro before
-- FNC1.
abbrev pub NoSizeSays : Extent → SizeChoice → ContentView → Type 0
NoSizeSays extent choice content = (size : SizeEntry) (other : List ℕ) → IsTaken choice size
    → length other ≡ size.data_count → FramesNoFnc1 other content.items → Says extent other content → ⊥

-- Of the codewords of one size, those are the plainest that the most readers read: the ASCII form with pads where
-- there is room for it; else some that say the content in the usual extent, where there are any. That these are
-- preferred is a rule of this project.
pub record IsPlainestContent (words : List ℕ) (content : ContentView) : Type 0 where
  pub ascii : length (content_form Ascii content) ≤ length words
      → words ≡ padded (content_form Ascii content) (length words)
  pub usual : (other : List ℕ) → length other ≡ length words → Says Usual other content → Says Usual words content

-- What stands behind the parts of a symbol's data codewords, up to their end, is pads as the standard has them at these
-- places, or nothing.
abbrev pub ArePads : List ℕ → List ℕ → Type 0
ArePads words after = after ≡ pads (length words + 1 - length after) (length after)

-- The words are all data codewords of a symbol and say the content in an extent, and behind the parts that do stand
-- only pads. (What codewords say is said by the first pad alone.)
pub record SaysThenPads (extent : Extent) (words : List ℕ) (content : ContentView) : Type 0 where
  pub says : Says extent words content
  pub pads : ArePads words says.parts.after

-- The words of the size that was chosen stand at the beginning of a target, as many as it has data codewords; there are
-- none where no size was.
abbrev pub chosen_words : Result SizeEntry TooLong → List ℕ → List ℕ
chosen_words (Ok size) target = take size.data_count target
chosen_words (Err why) target = []

-- What choosing the smallest codewords of a content in an extent gives: the size, with these words, the plainest of it,
-- with pads behind them; a fault exactly where the codewords of no size of the choice say the content.
pub record IsSmallestContentResult (extent : Extent) (choice : SizeChoice) (content : ContentView)
    (result : Result SizeEntry TooLong) (words : List ℕ) : Type 0 where
  pub smallest : IfOk result (λ size. IsSmallestContentFor extent choice size words content)
  pub plainest : OnOk result (IsPlainestContent words content)
  pub padded : OnOk result (SaysThenPads extent words content)
  pub too_long : IsErr result → NoSizeSays extent choice content
