-- The smallest symbol of a content, in a choice of sizes, for readers of an extent.
use Rattle.std.specs.Prelude.{ℕ, List, Option, None, Result, Ok, IfOk, OnErr, replicate}
use Rattle.dm_words.specs.declared.extent.Extent.{Extent}
use Rattle.dm_words.specs.declared.fault.TooLong.{TooLong}
use Rattle.dm_words.specs.Contents.{ContentView}
use Rattle.dm_words.specs.Plain.{FramesNoFnc1}
use Rattle.dm_words.specs.Smallest.{IsTaken, IsSmaller, IsSmallestContentFor, IsPlainestContent, SaysThenPads}
use Rattle.dm_words.specs.Smallest.{NoSizeSays}
use Rattle.dm_layout.specs.declared.symbols.size.SizeChoice.{SizeChoice}
use Rattle.dm_layout.specs.symbols.Sizes.{block_check}
use Rattle.dm_layout.specs.symbols.Symbols.{SymbolView}
use Rattle.dm_layout.specs.symbols.Holding.{IsLaid}
use Rattle.dm_symbol.specs.declared.symbol.dealing.Dealing.TheVariants.{Standard}
use Rattle.dm_symbol.specs.SymbolBlocks.{words_with, AreCodewordsOf, first_data}
use Rattle.dm_symbol.specs.ContentReading.{ReadsContent, ContentReadResult, content_reading_of}
use Rattle.dm_symbol.specs.SymbolLaws.{nothing_wrong}

-- The modules are a symbol with the smallest data codewords of the content.
pub record IsSmallestContentSymbol (extent : Extent) (choice : SizeChoice) (content : ContentView)
    (modules : SymbolView)
    : Type 0 where
  -- Codewords of this size are laid in it: it holds them, each module of its borders has the right colour, and it has
  -- the fixed square.
  pub words : List ℕ
  pub laid : IsLaid (words_with modules.size words) modules
  -- The data codewords say the content, and those of no smaller size of the choice do.
  pub smallest : IsSmallestContentFor extent choice modules.size (first_data modules.size words) content
  -- Of the codewords of its size they are the plainest, with pads behind them.
  pub plainest : IsPlainestContent (first_data modules.size words) content
  pub padded : SaysThenPads extent (first_data modules.size words) content
  -- The check codewords make each block a codeword of its Reed-Solomon code.
  pub checked : AreCodewordsOf modules.size words

-- The symbol is read as the content in the extent, for every limit, by the standard's dealing, with nothing wrong in
-- any block and no border fault; its codewords have some identifier.
abbrev pub IsContentReadWithNothingWrong : Extent → ContentView → SymbolView → Type 0
IsContentReadWithNothingWrong extent content modules =
    (identifier : ℕ) × ((limit : ℕ) → ContentReadResult extent modules None limit
    (Ok (content_reading_of content identifier Standard
    (replicate modules.size.blocks (nothing_wrong (block_check modules.size))) 0)))

-- No symbol of a smaller size of the choice is read as the content in the extent, whatever is wrong or doubtful in it,
-- but for those whose codewords have a macro before FNC1.
abbrev pub NoSmallerSays : Extent → SizeChoice → ContentView → SymbolView → Type 0
NoSmallerSays extent choice content modules = (other : SymbolView) (doubtful : Option SymbolView) (limit : ℕ)
    → IsTaken choice other.size → IsSmaller other.size modules.size
    → (reads : ReadsContent extent other doubtful limit content)
    → FramesNoFnc1 (first_data other.size reads.codewords) content.items → ⊥

-- No symbol of any size of the choice is read as the content in the extent, whatever is wrong or doubtful in it, but
-- for those whose codewords have a macro before FNC1.
abbrev pub NoneSays : Extent → SizeChoice → ContentView → Type 0
NoneSays extent choice content = (other : SymbolView) (doubtful : Option SymbolView) (limit : ℕ)
    → IsTaken choice other.size → (reads : ReadsContent extent other doubtful limit content)
    → FramesNoFnc1 (first_data other.size reads.codewords) content.items → ⊥

-- Writing a content in its smallest symbol gives one that is read as the content, where no smaller one is; or that none
-- is, of any size of the choice.
pub record IsSmallestContentWritten (extent : Extent) (choice : SizeChoice) (content : ContentView)
    (result : Result SymbolView TooLong) : Type 0 where
  pub written : IfOk result (λ modules. IsSmallestContentSymbol extent choice content modules)
  pub read : IfOk result (λ modules. IsContentReadWithNothingWrong extent content modules)
  pub no_smaller : IfOk result (λ modules. NoSmallerSays extent choice content modules)
  pub none : OnErr result (NoneSays extent choice content)
  pub no_size : OnErr result (NoSizeSays extent choice content)
