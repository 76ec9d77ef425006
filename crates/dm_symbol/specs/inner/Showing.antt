-- What mending the codewords that a symbol holds leaves.
use Rattle.std.specs.Prelude.{◌≡◌, ◌↔◌, ℕ, List, Option, length}
use Rattle.dm_words.specs.declared.extent.Extent.TheVariants.{Wide}
use Rattle.dm_layout.specs.symbols.Symbols.{SymbolView}
use Rattle.dm_symbol.specs.declared.symbol.dealing.Dealing.{Dealing}
use Rattle.dm_symbol.specs.declared.symbol.dealing.Dealing.TheVariants.{Restarted}
use Rattle.dm_symbol.specs.declared.symbol.reading.BlockReading.{BlockReading}
use Rattle.dm_symbol.specs.Dealings.{dealt, erased_by}
use Rattle.dm_symbol.specs.SymbolBlocks.{AreOfSize}
use Rattle.dm_symbol.specs.SymbolReading.{AreRestored, AreBlocksMended}

-- The codewords that are held are mended by the dealing that an inspection shows, with what is said of each block.
pub record IsMended (modules : SymbolView) (doubtful : Option SymbolView) (held after : List ℕ) (by : Dealing)
    (blocks : List (Option BlockReading)) : Type 0 where
  pub of_size : AreOfSize modules.size after
  pub dealing : (by ≡ Restarted)
      ↔ ((codewords : List ℕ) × AreRestored Wide modules doubtful Restarted held codewords)
  pub count : length blocks ≡ modules.size.blocks
  pub mended : AreBlocksMended modules.size (erased_by by modules.size doubtful) (dealt by modules.size held)
      (dealt by modules.size after) blocks
