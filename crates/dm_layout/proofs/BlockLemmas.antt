-- The blocks of a square's codewords, which are all of one length.
use Rattle.dm_layout.proofs.Names.{◌≡◌, ℕ, ◌+◌, ◌*◌, ◌<◌, length, get_or, refl, sym, ◌∙◌, ap, subst, SizeRow, IsRow}
use Rattle.dm_layout.proofs.Names.{symbol_size, block_length, symbol_words}
use Rattle.dm_layout.proofs.symbols.Exported as symbols
use Rattle.dm_layout.specs.symbols.Sizes as sizes
use Rattle.dm_layout.specs.Sizes.{codeword_count}
use Rattle.dm_layout.specs.Words.{WordsView, IsWords}
use Rattle.dm_layout.specs.Blocks.{block_of, BlocksTellWords, BlocksTellData, DataComesFirst, BlocksMakeWords}
use Rattle.dm_layout.proofs.Squares.{is_size, is_square, are_codewords}

-- Each block of a size is as long as the others.
even : (s : SizeRow) (b : ℕ) → IsRow s → b < s.blocks → sizes.block_length (symbol_size s) b ≡ block_length s
even s b row lb = (is_square s row).whole b lb

-- A block is as long as the blocks of its size are.
pub length_of_block : (w : WordsView) (b : ℕ) → IsWords w → b < w.size.blocks →
    length (block_of w.size.blocks b w.list) ≡ block_length w.size
length_of_block w b words lb =
    symbols.length_of_block (symbol_words w) b (are_codewords w words) lb ∙ even w.size b words.row lb

-- Codeword k of block b is the one at place k * B + b of the symbol.
pub word_of_block : (w : WordsView) (b k : ℕ) → IsWords w → b < w.size.blocks → k < block_length w.size →
    get_or (block_of w.size.blocks b w.list) k 0 ≡ get_or w.list (k * w.size.blocks + b) 0
word_of_block w b k words lb lk =
    symbols.word_of_block (symbol_words w) b k (are_codewords w words) lb
    (subst (λ (n : ℕ). k < n) (sym (even w.size b words.row lb)) lk)

-- ---- what the blocks tell

-- Codewords of one size that agree in all blocks are the same.
pub same_by_blocks : BlocksTellWords
same_by_blocks v w x y e =
    symbols.same_by_blocks (symbol_words v) (symbol_words w) (are_codewords v x) (are_codewords w y) (ap symbol_size e)

-- A block begins with those of the symbol's data codewords that are dealt to it.
pub data_of_block : DataComesFirst
data_of_block w b words lb =
    rw ((is_square w.size words.row).data_part b lb) at (symbols.data_of_block (symbol_words w) b (are_codewords w
    words) lb)

-- Codewords of one size whose blocks all begin with the same data codewords have the same data codewords.
pub same_data_by_blocks : BlocksTellData
same_data_by_blocks v w x y e blocks =
    symbols.same_data_by_blocks (symbol_words v) (symbol_words w) (are_codewords v x) (are_codewords w y)
    (ap symbol_size e)
    (λ b lb.
    rw (← (is_square v.size x.row).data_part b lb) at (blocks b lb))

-- Lists that can be the blocks of a size are the blocks of some codewords of that size.
pub blocks_make_words : BlocksMakeWords
blocks_make_words size blocks row are =
    let made =
    symbols.blocks_make_words (symbol_size size) blocks (is_size size row)
    (λ b lb. ((are b lb).0 ∙ sym (even size b row lb), (are b lb).1)) in
    let count : length made.0.list ≡ codeword_count size = made.1.count ∙ ap sizes.codeword_count made.2 in
    let words : WordsView = record { size = size; list = made.0.list } in
    (words, record { row = row; count = count; bytes = made.1.bytes }, refl, made.3)
