-- To which codewords a symbol of any size is restored, whatever they are then said to say.
use Rattle.std.specs.Prelude.{◌≡◌, ℕ, ◌≤◌, List, Option}
use Rattle.dm_words.specs.declared.extent.Extent.{Extent}
use Rattle.dm_layout.specs.symbols.Symbols.{SymbolView}
use Rattle.dm_layout.specs.symbols.Words.{WordsView}
use Rattle.dm_symbol.specs.declared.symbol.reading.BlockReading.{BlockReading}
use Rattle.dm_symbol.specs.declared.symbol.dealing.Dealing.{Dealing}
use Rattle.dm_symbol.specs.Doubt.{sure_fault_count}
use Rattle.dm_symbol.specs.SymbolReading.{AreRestored, readings_by}

-- The codewords of a symbol are restored to these in an extent: at most `limit` modules of its borders surely have the
-- wrong colour; the words that it holds are restored by this dealing; this is what reading says of each block, and this
-- the number of sure border faults.
pub record IsRestored (extent : Extent) (modules : SymbolView) (doubtful : Option SymbolView) (limit : ℕ)
    (codewords : WordsView) (dealing : Dealing) (blocks : List BlockReading) (faults : ℕ) : Type 0 where
  pub few : sure_fault_count modules doubtful ≤ limit
  pub faults_are : faults ≡ sure_fault_count modules doubtful
  pub size : codewords.size ≡ modules.size
  pub held : List ℕ
  pub restored : AreRestored extent modules doubtful dealing held codewords.list
  pub readings : blocks ≡ readings_by dealing modules.size doubtful held codewords.list
