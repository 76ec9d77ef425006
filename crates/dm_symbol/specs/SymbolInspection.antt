-- Which codewords a symbol of any size holds, and which they are once each block to which a codeword is near, but for
-- what is doubtful, is restored.
use Rattle.std.specs.Prelude.{◌≡◌, ℕ, List, Option, length, ◌↔◌}
use Rattle.dm_words.specs.declared.extent.Extent.TheVariants.{Wide}
use Rattle.dm_layout.specs.symbols.Symbols.{SymbolView}
use Rattle.dm_layout.specs.symbols.Holding.{Holds}
use Rattle.dm_symbol.specs.declared.symbol.inspection.SymbolInspectionIn.{SymbolInspectionIn}
use Rattle.dm_symbol.specs.declared.symbol.dealing.Dealing.TheVariants.{Restarted}
use Rattle.dm_symbol.specs.Doubt.{sure_fault_count}
use Rattle.dm_symbol.specs.Dealings.{dealt, erased_by}
use Rattle.dm_symbol.specs.SymbolBlocks.{AreOfSize}
use Rattle.dm_symbol.specs.SymbolReading.{AreRestored, AreBlocksMended}

-- The inspection of a symbol gives the codewords that it holds; a dealing, which is the other than the standard's
-- exactly where the extent `Wide` restores the symbol by it; the same codewords, with each block, dealt so, restored as
-- far as it can be; what reading says of each block, or `None` where no codeword is near to it; and how many modules of
-- the borders surely have the wrong colour.
pub record IsSymbolInspection {room : ℕ} (modules : SymbolView) (doubtful : Option SymbolView)
    (inspection : SymbolInspectionIn room) : Type 0 where
  pub held : Holds modules inspection.held
  pub same_size : inspection.mended.size ≡ modules.size
  pub of_size : AreOfSize modules.size inspection.mended.list
  pub dealing : (inspection.dealing ≡ Restarted)
      ↔ ((codewords : List ℕ) × AreRestored Wide modules doubtful Restarted inspection.held.list codewords)
  pub count : length inspection.blocks.items ≡ modules.size.blocks
  pub mended : AreBlocksMended modules.size (erased_by inspection.dealing modules.size doubtful)
      (dealt inspection.dealing modules.size inspection.held.list)
      (dealt inspection.dealing modules.size inspection.mended.list) inspection.blocks.items
  pub border : inspection.border_faults ≡ sure_fault_count modules doubtful
