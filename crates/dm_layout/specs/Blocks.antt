-- The Reed-Solomon blocks into which the codewords of a square are dealt, as those of a symbol of any size are. The
-- blocks of a square of the table are all of one length.
use Rattle.std.specs.Prelude.{◌≡◌, ℕ, ◌<◌, List}
use Rattle.dm_layout.specs.symbols.Blocks as symbols
pub use Rattle.dm_layout.specs.symbols.Blocks.{places_of_block, block_of}
use Rattle.dm_layout.specs.Sizes.{SizeRow, IsRow, block_data, block_length}
use Rattle.dm_layout.specs.Words.{WordsView, IsWords, symbol_words, data_of}

-- The lists can be blocks of the size.
abbrev pub AreBlocks : SizeRow → (ℕ → List ℕ) → Type 0
AreBlocks size = symbols.AreLists size.blocks (λ b. block_length size)

-- ---- laws

-- The blocks of a square determine its codewords.
abbrev pub BlocksTellWords : Type 0
BlocksTellWords =
    (v w : WordsView) → IsWords v → IsWords w → v.size ≡ w.size →
    symbols.HasBlocks (symbol_words v) (λ b. block_of v.size.blocks b w.list) → v.list ≡ w.list

-- The data codewords of all blocks determine the data codewords of the square.
abbrev pub BlocksTellData : Type 0
BlocksTellData =
    (v w : WordsView) → IsWords v → IsWords w → v.size ≡ w.size →
    symbols.BeginAlike (λ b. block_data v.size) (symbol_words v) (symbol_words w) → data_of v ≡ data_of w

-- Each block begins with its data codewords.
abbrev pub DataComesFirst : Type 0
DataComesFirst =
    (w : WordsView) (b : ℕ) → IsWords w → b < w.size.blocks →
    symbols.BeginsWithData (λ b. block_data w.size) (symbol_words w) b

-- Lists that can be the blocks of a size are the blocks of some codewords of that size.
abbrev pub BlocksMakeWords : Type 0
BlocksMakeWords =
    (size : SizeRow) (blocks : ℕ → List ℕ) → IsRow size → AreBlocks size blocks →
    (w : WordsView) × IsWords w × (w.size ≡ size)
    × ((b : ℕ) → b < size.blocks → block_of size.blocks b w.list ≡ blocks b)
