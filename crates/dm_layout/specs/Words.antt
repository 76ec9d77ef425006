-- The codewords of a square, which are those of a symbol of its size, in the symbol's order (ISO/IEC 16022, symbol
-- sizes and capacities).
use Rattle.std.specs.Prelude.{◌≡◌, ℕ, ◌<◌, List, length, All}
use Rattle.dm_layout.specs.symbols.Words as symbols
use Rattle.dm_layout.specs.Sizes.{SizeRow, IsRow, symbol_size, codeword_count}

-- The codewords of a square belong to its size.
pub record WordsView : Type 0 where
  pub size : SizeRow
  pub list : List ℕ

-- They are the codewords of a symbol.
abbrev pub symbol_words : WordsView → symbols.WordsView
symbol_words words = record { size = symbol_size words.size; list = words.list }

-- Codewords are well formed if their size stands in the table of squares and they are well-formed codewords of a
-- symbol.
pub record IsWords (words : WordsView) : Type 0 where
  pub row : IsRow words.size
  pub count : length words.list ≡ codeword_count words.size
  pub bytes : All (λ word. word < 256) words.list

-- The data codewords of a square are those of the symbol.
abbrev pub data_of : WordsView → List ℕ
data_of words = symbols.data_of (symbol_words words)
