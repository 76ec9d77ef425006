-- What the library gives for a symbol that is to be read.
use Rattle.std.specs.Prelude.{◌≡◌, ℕ, List, length, map, Option, None, Ok, Err}
use Rattle.dm_symbol.specs.declared.Extent.{Extent}
use Rattle.dm_symbol.specs.declared.Dealing.{Dealing}
use Rattle.dm_symbol.specs.declared.Dealing.TheVariants.{Standard, Restarted}
use Rattle.dm_symbol.specs.declared.ContentReadFault.{ContentReadFault}
use Rattle.dm_layout.specs.symbols.Symbols.{SymbolView}
use Rattle.dm_symbol.specs.ContentReading.{ContentReadingView, ContentReadResult}
use Rattle.ecc200_calls.specs.declared.fault.Fault.{Fault}
use Rattle.ecc200_calls.specs.declared.reading.ReadingOut.{ReadingOut}
use Rattle.ecc200_calls.specs.declared.scan.Scan.{Scan}
use Rattle.ecc200_calls.specs.declared.scan.Sought.{Sought}
use Rattle.ecc200_calls.specs.Arrays.{over}
use Rattle.ecc200_calls.specs.Faults.{fault, read_content_fault}
use Rattle.ecc200_calls.specs.Items.{number_of}
use Rattle.ecc200_calls.specs.Contents.{head_shown, mark_shown}
use Rattle.ecc200_calls.specs.Scans.{SoughtResult, sought_of}

-- After a fault there is that fault, the arrays are as they were before, and all else is 0.
abbrev pub no_reading : Fault → ReadingOut → ReadingOut
no_reading why before =
    record {
      fault = why;
      rows = 0;
      columns = 0;
      border_faults = 0;
      block_count = 0;
      item_count = 0;
      mark_count = 0;
      identifier = 0;
      dealing = 0;
      head = head_shown None;
      corrected = before.corrected;
      erased = before.erased;
      left = before.left;
      marks = before.marks;
      items = before.items;
    }

-- The number 0 stands for the standard's dealing of the check codewords, and 1 for the other.
abbrev pub dealing_shown : Dealing → ℕ
dealing_shown Standard = 0
dealing_shown Restarted = 1

-- A reading of a symbol with these rows and columns is given in this way.
abbrev pub reading_shown : ℕ → ℕ → ContentReadingView → ReadingOut → ReadingOut
reading_shown rows columns reading before =
    record {
      fault = fault 0 0 0;
      rows = rows;
      columns = columns;
      border_faults = reading.border_faults;
      block_count = length reading.blocks;
      item_count = length reading.content.items;
      mark_count = length reading.content.marks;
      identifier = reading.identifier;
      dealing = dealing_shown reading.dealing;
      head = head_shown reading.content.head;
      corrected = over (map (λ block. block.corrected) reading.blocks) before.corrected;
      erased = over (map (λ block. block.erased) reading.blocks) before.erased;
      left = over (map (λ block. block.left) reading.blocks) before.left;
      marks = over (map mark_shown reading.content.marks) before.marks;
      items = over (map number_of reading.content.items) before.items;
    }

-- The result of reading a symbol as a content in an extent, with these of its modules doubtful, is given: a reading, or
-- a fault.
pub data IsReadingGiven (extent : Extent) (rows columns : ℕ) (symbol : SymbolView) (doubtful : Option SymbolView)
    (limit : ℕ) (before after : ReadingOut) : Type 0 where
  read : (reading : ContentReadingView) → ContentReadResult extent symbol doubtful limit (Ok reading)
      → after ≡ reading_shown rows columns reading before
      → IsReadingGiven extent rows columns symbol doubtful limit before after
  refused : (why : ContentReadFault) → ContentReadResult extent symbol doubtful limit (Err why)
      → after ≡ no_reading (read_content_fault why) before
      → IsReadingGiven extent rows columns symbol doubtful limit before after

-- Reading these modules by the numbers of a scan gives why what they ask for can't be, or the result for it.
pub data IsReadResult (modules doubt : List ℕ) (scan : Scan) (before after : ReadingOut) : Type 0 where
  not_sought : (why : Fault) → sought_of scan ≡ Err why → after ≡ no_reading why before
      → IsReadResult modules doubt scan before after
  sought : (sought : Sought) → sought_of scan ≡ Ok sought
      → SoughtResult sought modules doubt (λ why. after ≡ no_reading why before)
      (λ symbol doubtful limit.
      IsReadingGiven sought.extent sought.rows sought.columns symbol doubtful limit before after)
      → IsReadResult modules doubt scan before after
