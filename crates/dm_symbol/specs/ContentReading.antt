-- Which content a symbol of any size is read as, with doubtful modules or none, and how one that is not read is refused
-- (ISO/IEC 16022 and ISO/IEC 21471, decode algorithm).
use Rattle.std.specs.Prelude.{◌≡◌, ℕ, ◌<◌, ◌≤◌, ◌↔◌, List, Option, Result, Ok, Err, MatchResult}
use Rattle.dm_words.specs.declared.extent.Extent.{Extent}
use Rattle.dm_words.specs.declared.contents.fault.ContentFault.{ContentFault}
use Rattle.dm_words.specs.Contents.{ContentView, Says, IsRefused}
use Rattle.dm_words.specs.Symbology.{IsIdentifier}
use Rattle.dm_layout.specs.symbols.Symbols.{SymbolView}
use Rattle.dm_symbol.specs.declared.contents.ContentReadingIn.{ContentReadingIn}
use Rattle.dm_symbol.specs.declared.contents.ContentReadFault.{ContentReadFault}
use Rattle.dm_symbol.specs.declared.contents.ContentReadFault.TheVariants as fault
use Rattle.dm_symbol.specs.declared.symbol.dealing.Dealing.{Dealing}
use Rattle.dm_symbol.specs.declared.symbol.reading.BlockReading.{BlockReading}
use Rattle.dm_symbol.specs.Doubt.{sure_fault_count}
use Rattle.dm_symbol.specs.SymbolBlocks.{first_data}
use Rattle.dm_symbol.specs.SymbolReading.{AreRestored, AreLost, readings_by}

-- The symbol is read as the content in an extent: at most `limit` modules of its borders surely have the wrong colour,
-- and the words that it holds are restored to codewords whose data codewords say the content in that extent. That there
-- is a limit of wrong modules in borders, that each block is corrected up to what its check codewords allow, and that
-- the fixed square isn't looked at, are rules of this project.
pub record ReadsContent (extent : Extent) (modules : SymbolView) (doubtful : Option SymbolView) (limit : ℕ)
    (content : ContentView) : Type 0 where
  pub border : sure_fault_count modules doubtful ≤ limit
  pub dealing : Dealing
  pub words : List ℕ
  pub codewords : List ℕ
  pub restored : AreRestored extent modules doubtful dealing words codewords
  pub said : Says extent (first_data modules.size codewords) content

-- A reading has a content, the number of the identifier, the dealing by which the symbol is restored, what is said of
-- each block, in order, and a number of sure border faults.
pub record ContentReadingView : Type 0 where
  pub content : ContentView
  pub identifier : ℕ
  pub dealing : Dealing
  pub blocks : List BlockReading
  pub border_faults : ℕ

-- What stands in a target of a reading is a reading, whatever room for the content the target has.
abbrev pub content_reading_in : {items marks : ℕ} → ContentReadingIn items marks → ContentReadingView
content_reading_in target = record {
  content = target.content;
  identifier = target.identifier;
  dealing = target.dealing;
  blocks = target.blocks.items;
  border_faults = target.border_faults;
}

-- This is the reading with this content, this number of the identifier, by this dealing, with this of each block, and
-- this number of sure border faults.
abbrev pub content_reading_of : ContentView → ℕ → Dealing → List BlockReading → ℕ → ContentReadingView
content_reading_of content identifier dealing blocks faults = record {
  content = content;
  identifier = identifier;
  dealing = dealing;
  blocks = blocks;
  border_faults = faults;
}

-- The result for a symbol in an extent is the first of these that there is: the number of sure border faults, if it is
-- more than `limit`; the first block to which no codeword is near by the standard's dealing, where no dealing restores
-- the words; the fault with which the data codewords, restored, are refused; the content that they say, with its
-- identifier, the dealing, what reading says of each block and the number of sure border faults. Where codewords are
-- restored, one of the last two is there, and by a law no more than one. That they are looked for in this order is a
-- rule of this project.
pub data ContentReadResult (extent : Extent) (modules : SymbolView) (doubtful : Option SymbolView) (limit : ℕ)
    (result : Result ContentReadingView ContentReadFault) : Type 0 where
  border : limit < sure_fault_count modules doubtful → result ≡ Err (fault.Border (sure_fault_count modules doubtful))
      → ContentReadResult extent modules doubtful limit result
  block : (words : List ℕ) (index : ℕ) → sure_fault_count modules doubtful ≤ limit
      → AreLost extent modules doubtful words index → result ≡ Err (fault.Block index)
      → ContentReadResult extent modules doubtful limit result
  words : (dealing : Dealing) (words codewords : List ℕ) (why : ContentFault)
      → sure_fault_count modules doubtful ≤ limit → AreRestored extent modules doubtful dealing words codewords
      → IsRefused extent (first_data modules.size codewords) why
      → result ≡ Err (fault.Words why) → ContentReadResult extent modules doubtful limit result
  content : (dealing : Dealing) (words codewords : List ℕ) (content : ContentView) (identifier : ℕ)
      → sure_fault_count modules doubtful ≤ limit → AreRestored extent modules doubtful dealing words codewords
      → Says extent (first_data modules.size codewords) content
      → IsIdentifier (first_data modules.size codewords) content identifier
      → result ≡ Ok (content_reading_of content identifier dealing
      (readings_by dealing modules.size doubtful words codewords) (sure_fault_count modules doubtful))
      → ContentReadResult extent modules doubtful limit result

-- The result is a reading of this content.
abbrev pub IsReadAsContent : Result ContentReadingView ContentReadFault → ContentView → Type 0
IsReadAsContent result wanted = MatchResult result (λ reading. reading.content ≡ wanted) (λ _. ⊥)

-- What reading a symbol gives: the result defined above; a reading of a content exactly where the symbol is read as
-- that content; and a number of border faults exactly where the sure ones are more than `limit`, and this is their
-- number.
pub record IsContentRead (extent : Extent) (modules : SymbolView) (doubtful : Option SymbolView) (limit : ℕ)
    (result : Result ContentReadingView ContentReadFault) : Type 0 where
  pub result_is : ContentReadResult extent modules doubtful limit result
  pub content : (l : ContentView) → IsReadAsContent result l ↔ ReadsContent extent modules doubtful limit l
  pub border : (count : ℕ) → (result ≡ Err (fault.Border count))
      ↔ ((limit < sure_fault_count modules doubtful) × (count ≡ sure_fault_count modules doubtful))
