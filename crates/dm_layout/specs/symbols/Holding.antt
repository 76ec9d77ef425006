-- Which codewords the modules of a symbol hold, and the modules in which codewords are laid: ISO/IEC 16022, module
-- placement and symbol structure.
use Rattle.std.specs.Prelude.{◌≡◌}
use Rattle.dm_place.specs.Holding.{HoldsBits}
use Rattle.dm_layout.specs.symbols.Sizes.{mapping_rows, mapping_columns}
use Rattle.dm_layout.specs.symbols.Symbols.{SymbolView, IsSymbol}
use Rattle.dm_layout.specs.symbols.Words.{WordsView, IsWords}
use Rattle.dm_layout.specs.symbols.Border.{mapped_cell, border_fault_count, HasFixedSquare}

-- Modules hold codewords if both are of one size and, for every bit of every codeword, the module at which the bit's
-- place lies is dark exactly where the bit is 1. There are exactly as many codewords as the size has, each of 0 to 255.
-- The colours of the borders and of the fixed square don't matter here, by a rule of this project.
pub record Holds (modules : SymbolView) (words : WordsView) : Type 0 where
  pub symbol : IsSymbol modules
  pub codewords : IsWords words
  pub same_size : words.size ≡ modules.size
  pub bits : HoldsBits (mapping_rows modules.size) (mapping_columns modules.size) (mapped_cell modules) words.list

-- Codewords are laid in modules if these hold them, have no border fault and have the fixed square.
pub record IsLaid (words : WordsView) (modules : SymbolView) : Type 0 where
  pub holds : Holds modules words
  pub border : border_fault_count modules ≡ 0
  pub fixed_square : HasFixedSquare modules

-- ---- laws

-- The modules of each symbol hold some codewords.
abbrev pub AllModulesHold : Type 0
AllModulesHold = (modules : SymbolView) → IsSymbol modules → (words : WordsView) × Holds modules words

-- No modules hold two different lists of codewords.
abbrev pub HeldWordsAreOne : Type 0
HeldWordsAreOne = (modules : SymbolView) (v w : WordsView) → Holds modules v → Holds modules w → v ≡ w

-- All codewords of a size can be laid in some modules.
abbrev pub WordsAreLaid : Type 0
WordsAreLaid = (words : WordsView) → IsWords words → (modules : SymbolView) × IsLaid words modules

-- No codewords are laid in two different symbols.
abbrev pub LaidModulesAreOne : Type 0
LaidModulesAreOne = (words : WordsView) (m n : SymbolView) → IsLaid words m → IsLaid words n → m ≡ n
