-- The data codewords and the Reed-Solomon blocks of a symbol of any size (ISO/IEC 16022 and ISO/IEC 21471, error
-- correction).
use Rattle.std.specs.Prelude.{ℕ, ◌<◌, List, take}
use Rattle.dm_code.specs.Codeword.{IsCodeword}
use Rattle.dm_layout.specs.symbols.Sizes.{SizeEntry, block_check}
pub use Rattle.dm_layout.specs.symbols.Words.{AreOfSize, words_with}
use Rattle.dm_layout.specs.symbols.Blocks.{block_of}

-- Among the codewords of a symbol of this size, the data codewords come first.
abbrev pub first_data : SizeEntry → List ℕ → List ℕ
first_data size words = take size.data_count words

-- Each block is a codeword of its Reed-Solomon code.
abbrev pub AreCodewordsOf : SizeEntry → List ℕ → Type 0
AreCodewordsOf size words = (b : ℕ) → b < size.blocks → IsCodeword (block_check size) (block_of size.blocks b words)
