-- What restoring the codewords of a symbol by the other dealing leaves.
use Rattle.std.specs.Prelude.{◌≡◌, ℕ, List, Option}
use Rattle.dm_layout.specs.symbols.Symbols.{SymbolView}
use Rattle.dm_layout.specs.symbols.Words.{words_with}
use Rattle.dm_layout.specs.symbols.Holding.{Holds}
use Rattle.dm_symbol.specs.declared.symbol.reading.BlockReading.{BlockReading}
use Rattle.dm_symbol.specs.declared.symbol.dealing.Dealing.TheVariants.{Restarted}
use Rattle.dm_symbol.specs.Dealings.{IsDealtTwoWays}
use Rattle.dm_symbol.specs.SymbolReading.{AreRestoredBy, readings_by}

-- The modules, whose size is one of the table, hold these words, which are all codewords of a symbol of that size.
abbrev pub AreHeldBy : SymbolView → List ℕ → Type 0
AreHeldBy modules words = Holds modules (words_with modules.size words)

-- They are restored by the other dealing, where the size is dealt in two ways, whatever the standard's dealing gives.
pub record IsRestarted (modules : SymbolView) (doubtful : Option SymbolView) (codewords : List ℕ)
    (blocks : List BlockReading) : Type 0 where
  pub two_ways : IsDealtTwoWays modules.size
  pub held : List ℕ
  pub by : AreRestoredBy Restarted modules doubtful held codewords
  pub readings : blocks ≡ readings_by Restarted modules.size doubtful held codewords
