-- The Reed-Solomon blocks into which the codewords of a symbol are dealt: ISO/IEC 16022, error correction.
use Rattle.std.specs.Prelude.{◌≡◌, ℕ, ◌+◌, ◌%◌, ◌<◌, List, map, filter, length, nat_eq, get_or, take, All}
use Rattle.std.specs.List.{range_with_len}
use Rattle.dm_layout.specs.symbols.Sizes.{SizeEntry, IsSize, block_data, block_check, block_length}
use Rattle.dm_layout.specs.symbols.Words.{WordsView, IsWords, data_of}

-- The places of block b in a list of `count` codewords that is dealt into B blocks are those that leave b when divided
-- by B, in order.
abbrev pub places_of_block : ℕ → ℕ → ℕ → List ℕ
places_of_block B b count = filter (λ j. nat_eq (j % B) b) (range_with_len 0 count)

-- Block b of a list of codewords that is dealt into B blocks has the codewords at its places, in order.
abbrev pub block_of : ℕ → ℕ → List ℕ → List ℕ
block_of B b words = map (λ j. get_or words j 0) (places_of_block B b (length words))

-- The lists can be B blocks: there is one for each block, as long as `long` says of it, of numbers of 0 to 255.
abbrev pub AreLists : ℕ → (ℕ → ℕ) → (ℕ → List ℕ) → Type 0
AreLists B long blocks = (b : ℕ) → b < B → (length (blocks b) ≡ long b) × All (λ word. word < 256) (blocks b)

-- The lists can be blocks of the size, which has so many blocks of these lengths.
abbrev pub AreBlocks : SizeEntry → (ℕ → List ℕ) → Type 0
AreBlocks size = AreLists size.blocks (block_length size)

-- The blocks of the codewords are these lists.
abbrev pub HasBlocks : WordsView → (ℕ → List ℕ) → Type 0
HasBlocks words blocks = (b : ℕ) → b < words.size.blocks → block_of words.size.blocks b words.list ≡ blocks b

-- The first codewords of each block, as many as `count` says of it, are the same in both lists of codewords.
abbrev pub BeginAlike : (ℕ → ℕ) → WordsView → WordsView → Type 0
BeginAlike count v w =
    (b : ℕ) → b < v.size.blocks →
    take (count b) (block_of v.size.blocks b v.list) ≡ take (count b) (block_of v.size.blocks b w.list)

-- The first codewords of a block, as many as `count` says of it, are those of the symbol's data codewords that are
-- dealt to the block.
abbrev pub BeginsWithData : (ℕ → ℕ) → WordsView → ℕ → Type 0
BeginsWithData count w b =
    take (count b) (block_of w.size.blocks b w.list) ≡ block_of w.size.blocks b (data_of w)

-- ---- laws

-- Each block is as long as the table says, and has its data codewords and as many check codewords as each other block.
pub record HasLengths (words : WordsView) (b : ℕ) : Type 0 where
  pub whole : length (block_of words.size.blocks b words.list) ≡ block_length words.size b
  pub data_part : length (block_of words.size.blocks b (data_of words)) ≡ block_data words.size b
  pub parts : block_length words.size b ≡ block_data words.size b + block_check words.size

-- Each block of a symbol has these lengths.
abbrev pub BlocksHaveLengths : Type 0
BlocksHaveLengths = (words : WordsView) (b : ℕ) → IsWords words → b < words.size.blocks → HasLengths words b

-- The blocks of a symbol determine its codewords: codewords of one size that agree in all blocks are the same.
abbrev pub BlocksTellWords : Type 0
BlocksTellWords =
    (v w : WordsView) → IsWords v → IsWords w → v.size ≡ w.size →
    HasBlocks v (λ b. block_of v.size.blocks b w.list) → v.list ≡ w.list

-- The data codewords of all blocks determine the data codewords of the symbol.
abbrev pub BlocksTellData : Type 0
BlocksTellData =
    (v w : WordsView) → IsWords v → IsWords w → v.size ≡ w.size →
    BeginAlike (block_data v.size) v w → data_of v ≡ data_of w

-- Each block begins with its data codewords.
abbrev pub DataComesFirst : Type 0
DataComesFirst = (w : WordsView) (b : ℕ) → IsWords w → b < w.size.blocks → BeginsWithData (block_data w.size) w b

-- Lists that can be the blocks of a size are the blocks of some codewords of that size.
abbrev pub BlocksMakeWords : Type 0
BlocksMakeWords =
    (size : SizeEntry) (blocks : ℕ → List ℕ) → IsSize size → AreBlocks size blocks →
    (w : WordsView) × IsWords w × (w.size ≡ size)
    × ((b : ℕ) → b < size.blocks → block_of size.blocks b w.list ≡ blocks b)
