-- The symbol in which data codewords are written, in the smallest size of a choice (ISO/IEC 16022 and ISO/IEC 21471).
-- Which codewords are written for a message or a content is said by its normal form.
use Rattle.std.specs.Prelude.{◌≡◌, ℕ, List, Some, IsSome, length, Result, IfOk, IsOk, OnErr, ◌↔◌}
use Rattle.dm_words.specs.declared.fault.TooLong.{TooLong}
use Rattle.dm_layout.specs.declared.symbols.size.SizeChoice.{SizeChoice}
use Rattle.dm_layout.specs.symbols.Sizes.{entry_for}
use Rattle.dm_layout.specs.symbols.Symbols.{SymbolView}
use Rattle.dm_layout.specs.symbols.Holding.{IsLaid}
use Rattle.dm_words.specs.Pads.{padded}
use Rattle.dm_symbol.specs.SymbolBlocks.{words_with, AreCodewordsOf, first_data}

-- Data codewords without pads fit some size of the choice: one that has at least as many data codewords.
abbrev pub FitChoice : SizeChoice → List ℕ → Type 0
FitChoice choice form = IsSome (entry_for choice (length form))

-- Data codewords without pads are written in the modules, in a size of the choice.
pub record AreWrittenIn (choice : SizeChoice) (form : List ℕ) (modules : SymbolView) : Type 0 where
  -- The size is the smallest of the choice with at least as many data codewords: the one of the smallest area, and of
  -- those of equal area the one with the fewest columns.
  pub smallest : entry_for choice (length form) ≡ Some modules.size
  -- Codewords of this size are laid in it: it holds them, each module of its borders has the right colour, and it has
  -- the fixed square.
  pub words : List ℕ
  pub laid : IsLaid (words_with modules.size words) modules
  -- The data codewords are these, followed by pads.
  pub data_words : first_data modules.size words ≡ padded form modules.size.data_count
  -- The check codewords make each block a codeword of its Reed-Solomon code.
  pub checked : AreCodewordsOf modules.size words

-- Where data codewords fit some size of the choice, writing them gives the only symbol in which they are written so;
-- otherwise it gives that there is none.
pub record AreWritten (choice : SizeChoice) (form : List ℕ) (result : Result SymbolView TooLong) : Type 0 where
  pub written : IfOk result (λ modules. AreWrittenIn choice form modules)
  pub one : IfOk result (λ modules. (other : SymbolView) → AreWrittenIn choice form other → other ≡ modules)
  pub fits : IsOk result ↔ FitChoice choice form
  pub none : OnErr result ((modules : SymbolView) → AreWrittenIn choice form modules → ⊥)
