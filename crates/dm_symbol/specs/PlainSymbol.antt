-- Symbols whose data codewords are plain, and have the identifier of the ASCII form, as those of each symbol that is
-- written are.
use Rattle.std.specs.Prelude.{ℕ, List}
use Rattle.dm_layout.specs.symbols.Symbols.{SymbolView}
use Rattle.dm_layout.specs.symbols.Holding.{IsLaid}
use Rattle.dm_words.specs.Contents.{ContentView}
use Rattle.dm_words.specs.Plain.{IsPlainForm}
use Rattle.dm_symbol.specs.SymbolBlocks.{words_with, first_data}

-- Codewords of its size are laid in the symbol, and the data codewords are a plain form of the content.
pub record IsPlainSymbol (modules : SymbolView) (content : ContentView) : Type 0 where
  pub words : List ℕ
  pub laid : IsLaid (words_with modules.size words) modules
  pub form : IsPlainForm (first_data modules.size words) content
