-- Which message a grid is read as, and how a grid that is not read is refused: as its symbol is in the usual extent
-- with no module doubtful (ISO/IEC 16022, decode algorithm).
use Rattle.std.specs.Prelude.{◌≡◌, ℕ, ◌/◌, ◌<◌, ◌↔◌, List, map, None, Result, Ok, Err, MatchResult}
use Rattle.dm_words.specs.declared.item.Item.{Item}
use Rattle.dm_words.specs.declared.extent.Extent.TheVariants.{Usual}
use Rattle.dm_layout.specs.Grid.{GridView, IsGrid, symbol_modules}
use Rattle.dm_layout.specs.Border.{border_fault_count}
use Rattle.dm_symbol.specs.declared.reading.Reading.{Reading}
use Rattle.dm_symbol.specs.declared.reading.ReadFault.{ReadFault}
use Rattle.dm_symbol.specs.declared.reading.ReadFault.TheVariants as fault
use Rattle.dm_words.specs.declared.contents.fault.ContentFault.TheVariants as words_fault
use Rattle.dm_words.specs.ContentExtents.{as_content}
use Rattle.dm_symbol.specs.declared.contents.ContentReadFault.{ContentReadFault}
use Rattle.dm_symbol.specs.declared.contents.ContentReadFault.TheVariants as content
use Rattle.dm_symbol.specs.ContentReading.{ContentReadingView, ReadsContent, ContentReadResult}

-- The usual border limit of a symbol of this side is a quarter of it, rounded down, by a rule of this project.
abbrev pub usual_limit : ℕ → ℕ
usual_limit side = side / 4

-- The grid is read as the message if its symbol is read, in the usual extent and with no module doubtful, as the
-- content with its items and without a head and marks: at most `limit` modules of its borders have the wrong colour,
-- and each block of the words that it holds differs from the same block of codewords at no more places than half the
-- number of its check codewords, rounded down; the data codewords of these spell the message.
pub record Reads (grid : GridView) (limit : ℕ) (message : List Item) : Type 0 where
  pub is_grid : IsGrid grid
  pub read : ReadsContent Usual (symbol_modules grid) None limit (as_content message)

-- This is the reading with this message, these numbers of corrected codewords by block, and this number of border
-- faults.
abbrev pub reading_of : List Item → List ℕ → ℕ → Reading
reading_of message counts faults =
    record { message = message; corrected = record { items = counts }; border_faults = faults }

-- A fault of reading a grid is this one of reading its symbol.
abbrev pub content_fault : ReadFault → ContentReadFault
content_fault (fault.Border count) = content.Border count
content_fault (fault.Block index) = content.Block index
content_fault (fault.Words why) = content.Words (words_fault.Word why)

-- The result for a grid is what reading its symbol gives: of a reading the items, of each block the number of corrected
-- codewords, and the number of border faults; or the same fault.
abbrev pub IsGridResult : Result ContentReadingView ContentReadFault → Result Reading ReadFault → Type 0
IsGridResult (Ok reading) result = result
    ≡ Ok (reading_of reading.content.items (map (λ block. block.corrected) reading.blocks) reading.border_faults)
IsGridResult (Err why) result = (of_grid : ReadFault) × (why ≡ content_fault of_grid) × (result ≡ Err of_grid)

-- The result for a grid is that of its symbol in the usual extent with no module doubtful: the number of border faults,
-- if it is more than `limit`; the first block that no codeword is near; the fault with which the corrected data
-- codewords are refused; or the message that they spell, with the number of corrected codewords of each block and the
-- number of border faults.
pub record ReadResult (grid : GridView) (limit : ℕ) (result : Result Reading ReadFault) : Type 0 where
  pub is_grid : IsGrid grid
  pub of_symbol : Result ContentReadingView ContentReadFault
  pub read : ContentReadResult Usual (symbol_modules grid) None limit of_symbol
  pub same : IsGridResult of_symbol result

-- The result is a reading of this message.
abbrev pub IsReadAs : Result Reading ReadFault → List Item → Type 0
IsReadAs result wanted = MatchResult result (λ reading. reading.message ≡ wanted) (λ _. ⊥)

-- What reading a grid gives: the result defined above; a reading of a message exactly where the grid is read as that
-- message; and a number of border faults exactly where these are more than `limit`, and this is their number.
pub record IsRead (grid : GridView) (limit : ℕ) (result : Result Reading ReadFault) : Type 0 where
  pub result_is : ReadResult grid limit result
  pub message : (m : List Item) → IsReadAs result m ↔ Reads grid limit m
  pub border : (count : ℕ)
      → (result ≡ Err (fault.Border count)) ↔ ((limit < border_fault_count grid) × (count ≡ border_fault_count grid))
