-- The codewords of a symbol, in the symbol's order (ISO/IEC 16022, symbol sizes and capacities).
use Rattle.std.specs.Prelude.{◌≡◌, ℕ, ◌<◌, List, length, take, All}
use Rattle.dm_layout.specs.symbols.Sizes.{SizeEntry, IsSize, codeword_count}

-- The codewords of a symbol belong to its size, and stand in the symbol's order: first the data codewords, then the
-- check codewords.
pub record WordsView : Type 0 where
  pub size : SizeEntry
  pub list : List ℕ

-- Codewords are well formed if their size stands in the table and there are exactly as many of them as it has, each of
-- 0 to 255.
pub record IsWords (words : WordsView) : Type 0 where
  pub size : IsSize words.size
  pub count : length words.list ≡ codeword_count words.size
  pub bytes : All (λ word. word < 256) words.list

-- These are the codewords of a symbol of this size.
abbrev pub words_with : SizeEntry → List ℕ → WordsView
words_with size words = record { size = size; list = words }

-- The size is one of the table, and there are as many words as a symbol of this size has codewords, each of 0 to 255.
abbrev pub AreOfSize : SizeEntry → List ℕ → Type 0
AreOfSize size words = IsWords (words_with size words)

-- These are the codewords of a symbol of this size that stand at the start of a list of bytes.
abbrev pub first_words : SizeEntry → List ℕ → WordsView
first_words size bytes = words_with size (take (codeword_count size) bytes)

-- The data codewords of a symbol are the first of its codewords.
abbrev pub data_of : WordsView → List ℕ
data_of words = take words.size.data_count words.list
