-- The symbol in which a content is written in a form: that of the codewords of a profile, or the smallest.
use Rattle.std.specs.Prelude.{◌≡◌, ℕ, List, length, Result, Ok, Some}
use Rattle.dm_layout.specs.declared.symbols.size.SizeChoice.{SizeChoice}
use Rattle.dm_layout.specs.symbols.Sizes.{SizeEntry, entry_for}
use Rattle.dm_layout.specs.symbols.Symbols.{SymbolView}
use Rattle.dm_words.specs.declared.fault.TooLong.{TooLong}
use Rattle.dm_words.specs.Contents.{ContentView}
use Rattle.dm_words.specs.ContentForm.{content_form}
use Rattle.dm_words.specs.Pads.{padded}
use Rattle.dm_words.specs.Smallest.{IsSmallestContentResult}
use Rattle.dm_symbol.specs.declared.contents.writing.Form.{Form}
use Rattle.dm_symbol.specs.declared.contents.writing.Form.TheVariants.{Profiled, Smallest}
use Rattle.dm_symbol.specs.NormalContent.{IsContentWritten}
use Rattle.dm_symbol.specs.SmallestContentSymbol.{IsSmallestContentWritten}

-- Writing a content in a form and in a choice of sizes gives this.
abbrev pub IsWrittenAs : Form → SizeChoice → ContentView → Result SymbolView TooLong → Type 0
IsWrittenAs (Profiled profile) choice content result = IsContentWritten choice profile content result
IsWrittenAs (Smallest extent) choice content result = IsSmallestContentWritten extent choice content result

-- The words are the data codewords of a size, with pads, that are chosen for a content in a form and in a choice of
-- sizes: the normal form under the profile, in the smallest size that holds it; or the smallest words for the extent.
abbrev pub AreChosen : Form → SizeChoice → ContentView → SizeEntry → List ℕ → Type 0
AreChosen (Profiled profile) choice content size words =
    let form = content_form profile content in
    (entry_for choice (length form) ≡ Some size) × (words ≡ padded form size.data_count)
AreChosen (Smallest extent) choice content size words = IsSmallestContentResult extent choice content (Ok size) words
