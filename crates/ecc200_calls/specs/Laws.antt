-- What holds of the modules of all symbols, and of messages, which are contents without a head and marks.
use Rattle.std.specs.Prelude.{◌≡◌, ℕ, ◌*◌, List, [], map, take, get_or, min, Option, None, Ok, Err}
use Rattle.dm_layout.specs.symbols.Symbols.{SymbolView, IsSymbol}
use Rattle.dm_words.specs.ContentExtents.{as_content}
use Rattle.dm_symbol.specs.declared.Extent.TheVariants.{Usual}
use Rattle.dm_symbol.specs.declared.Item.{Item}
use Rattle.dm_symbol.specs.declared.Profile.{Profile}
use Rattle.dm_symbol.specs.declared.ReadFault.{ReadFault}
use Rattle.dm_symbol.specs.declared.SizeChoice.{SizeChoice}
use Rattle.dm_symbol.specs.declared.SizeChoice.TheVariants.{Square}
use Rattle.dm_symbol.specs.ContentReading.{ContentReadingView, ContentReadResult, ReadsContent}
use Rattle.dm_symbol.specs.Messages.{IsMessage}
use Rattle.dm_symbol.specs.NormalContent.{IsContentWrittenIn, IsNormalOfContent, ContentFits}
use Rattle.dm_symbol.specs.Reading.{content_fault}
use Rattle.dm_symbol.specs.declared.Form.TheVariants.{Profiled}
use Rattle.ecc200_calls.specs.declared.reading.ReadingOut.{ReadingOut}
use Rattle.ecc200_calls.specs.declared.symbol.SymbolOut.{SymbolOut}
use Rattle.ecc200_calls.specs.Faults.{fault, read_fault}
use Rattle.ecc200_calls.specs.Items.{IsFirstForeign, number_of}
use Rattle.ecc200_calls.specs.Modules.{AreModulesOf}
use Rattle.ecc200_calls.specs.Readings.{IsReadingGiven, no_reading, reading_shown}
use Rattle.ecc200_calls.specs.Symbols.{IsNormalGiven, no_symbol, symbol_shown}
use Rattle.ecc200_calls.specs.Writings.{IsWritingGiven}

-- The modules of a symbol as it is given, as many as its rows times its columns, make that symbol.
abbrev pub ModulesMakeTheSymbol : Type 0
ModulesMakeTheSymbol =
    (symbol : SymbolView) (before : SymbolOut) → IsSymbol symbol → AreModulesOf symbol.size.rows symbol.size.columns
    (take (symbol.size.rows * symbol.size.columns) (symbol_shown symbol before).modules) symbol

-- Modules make at most one symbol.
abbrev pub OneSymbolIsMade : Type 0
OneSymbolIsMade =
    (rows columns : ℕ) (modules : List ℕ) (symbol other : SymbolView) → AreModulesOf rows columns modules symbol
    → AreModulesOf rows columns modules other → symbol ≡ other

-- What is given for a symbol is a reading of a message, a content without a head and marks; or a fault of messages.
pub data IsMessageGiven (rows columns : ℕ) (symbol : SymbolView) (doubtful : Option SymbolView) (limit : ℕ)
    (before after : ReadingOut) : Type 0 where
  read : (reading : ContentReadingView) → ContentReadResult Usual symbol doubtful limit (Ok reading)
      → reading.content ≡ as_content reading.content.items → after ≡ reading_shown rows columns reading before
      → IsMessageGiven rows columns symbol doubtful limit before after
  refused : (why : ReadFault) → ContentReadResult Usual symbol doubtful limit (Err (content_fault why))
      → after ≡ no_reading (read_fault why) before → IsMessageGiven rows columns symbol doubtful limit before after

-- In the extent `Usual` a message is given for a symbol, or a fault of messages.
abbrev pub MessagesAreGiven : Type 0
MessagesAreGiven =
    (rows columns : ℕ) (symbol : SymbolView) (doubtful : Option SymbolView) (limit : ℕ) (before after : ReadingOut)
    → IsReadingGiven Usual rows columns symbol doubtful limit before after
    → IsMessageGiven rows columns symbol doubtful limit before after

-- What is given for the numbers of a message is the first number that stands for no item, with its index, counted from
-- 0, or with 65535 if the index is more; or that the message fits no size of the choice; or the symbol in which it is
-- written.
pub data IsMessageWriting (profile : Profile) (choice : SizeChoice) (numbers : List ℕ) (before after : SymbolOut)
    : Type 0 where
  no_message : (place : ℕ) → IsFirstForeign numbers place
      → after ≡ no_symbol (fault 15 (get_or numbers place 0) (min place 65535)) before
      → IsMessageWriting profile choice numbers before after
  no_size : (message : List Item) → IsMessage message → map number_of message ≡ numbers
      → (ContentFits choice profile (as_content message) → ⊥) → after ≡ no_symbol (fault 14 0 0) before
      → IsMessageWriting profile choice numbers before after
  written : (message : List Item) (symbol : SymbolView) → IsMessage message → map number_of message ≡ numbers
      → IsContentWrittenIn choice profile (as_content message) symbol → after ≡ symbol_shown symbol before
      → IsMessageWriting profile choice numbers before after

-- What is given for numbers of items without a head and marks is what writing their message gives.
abbrev pub MessagesAreWritten : Type 0
MessagesAreWritten =
    (profile : Profile) (choice : SizeChoice) (numbers : List ℕ) (before after : SymbolOut)
    → IsWritingGiven (Profiled profile) choice None numbers [] before after
    → IsMessageWriting profile choice numbers before after

-- What is given for a symbol is the normal symbol of the message that it is read as; or that this fits no square; or a
-- fault of messages.
pub data IsNormalMessageGiven (profile : Profile) (symbol : SymbolView) (doubtful : Option SymbolView) (limit : ℕ)
    (before after : SymbolOut) : Type 0 where
  normal : (message : List Item) (normal_symbol : SymbolView)
      → ReadsContent Usual symbol doubtful limit (as_content message)
      → IsNormalOfContent profile (as_content message) normal_symbol → after ≡ symbol_shown normal_symbol before
      → IsNormalMessageGiven profile symbol doubtful limit before after
  no_square : (message : List Item) → ReadsContent Usual symbol doubtful limit (as_content message)
      → (ContentFits Square profile (as_content message) → ⊥) → after ≡ no_symbol (fault 14 0 0) before
      → IsNormalMessageGiven profile symbol doubtful limit before after
  refused : (why : ReadFault) → ContentReadResult Usual symbol doubtful limit (Err (content_fault why))
      → after ≡ no_symbol (read_fault why) before → IsNormalMessageGiven profile symbol doubtful limit before after

-- In the extent `Usual` the normal symbol of a message is given for a symbol, or that there is none, or a fault of
-- messages.
abbrev pub MessagesAreNormalised : Type 0
MessagesAreNormalised =
    (profile : Profile) (symbol : SymbolView) (doubtful : Option SymbolView) (limit : ℕ) (before after : SymbolOut)
    → IsNormalGiven Usual profile symbol doubtful limit before after
    → IsNormalMessageGiven profile symbol doubtful limit before after
