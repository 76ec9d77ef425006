-- What restoring the codewords of a symbol leaves for what they say to be read.
use Rattle.std.specs.Prelude.{ℕ, ◌*◌, ◌≤◌, Option, Result, Ok, Err}
use Rattle.dm_symbol.specs.declared.Extent.{Extent}
use Rattle.dm_symbol.specs.declared.Extent.TheVariants.{Wide}
use Rattle.dm_symbol.specs.declared.ContentReadFault.{ContentReadFault}
use Rattle.dm_layout.specs.symbols.Symbols.{SymbolView}
use Rattle.dm_layout.specs.symbols.Words.{WordsView}
use Rattle.dm_symbol.specs.ContentReading.{ContentReadingView, ContentReadResult, content_reading_of}
use Rattle.dm_symbol.specs.Messages.{most_data, most_spelled}
use Rattle.dm_symbol.specs.Restored as whole
use Rattle.ecc200_calls.specs.declared.answer.Said.{Said}
use Rattle.ecc200_calls.specs.declared.restoring.Restored.{Restored}
use Rattle.ecc200_calls.specs.declared.scan.BorderLimit.{BorderLimit}
use Rattle.ecc200_calls.specs.declared.scan.Sought.{Sought}
use Rattle.ecc200_calls.specs.Scans.{IsLimit}

-- The codewords of a symbol are restored to these in an extent, and this is known of them.
abbrev pub IsRestored : Extent → SymbolView → Option SymbolView → ℕ → WordsView → Restored → Type 0
IsRestored extent symbol doubtful limit words restored =
    whole.IsRestored extent symbol doubtful limit words restored.dealing restored.blocks.items restored.border_faults

-- They are so restored, or the symbol is refused with this fault.
abbrev pub IsRestoredOr : {A : Type 0} → Extent → SymbolView → Option SymbolView → ℕ → Result A ContentReadFault
    → WordsView → Restored → Type 0
IsRestoredOr extent symbol doubtful limit (Ok done) words restored =
    IsRestored extent symbol doubtful limit words restored
IsRestoredOr extent symbol doubtful limit (Err why) words restored =
    ContentReadResult extent symbol doubtful limit (Err why)

-- They are so restored, or the symbol is refused, at the border limit that is asked for.
pub record IsRestoredFor {A : Type 0} (asked : BorderLimit) (extent : Extent) (symbol : SymbolView)
    (doubtful : Option SymbolView) (result : Result A ContentReadFault) (words : WordsView) (restored : Restored)
    : Type 0 where
  pub limit : ℕ
  pub limit_is : IsLimit asked extent symbol doubtful limit
  pub restored_or : IsRestoredOr extent symbol doubtful limit result words restored

-- What there is to give for a symbol, with these of its modules doubtful, is so at the border limit that is sought.
pub record IsAtLimit (sought : Sought) (Given : SymbolView → Option SymbolView → ℕ → Type 0) (symbol : SymbolView)
    (doubtful : Option SymbolView) : Type 0 where
  pub limit : ℕ
  pub limit_is : IsLimit sought.limit sought.extent symbol doubtful limit
  pub given : Given symbol doubtful limit

-- This is the reading that is shown.
abbrev pub reading_said : Said → ContentReadingView
reading_said said =
    content_reading_of (record { head = said.head; items = said.items.now; marks = said.marks.now }) said.identifier
    said.restored.now.dealing said.restored.now.blocks.items said.restored.now.border_faults

-- There is room for the items that so many data codewords say in any extent, and not for more than any symbol says; and
-- for a mark for each two of them, and not for more marks than that.
pub record HasRoomToSay (items marks count : ℕ) : Type 0 where
  pub spelled : (extent : Extent) → most_spelled extent count ≤ items
  pub most : items ≤ most_spelled Wide most_data
  pub marked : count ≤ 2 * marks
  pub few_marks : 2 * marks ≤ most_data
