-- Blocks make the codewords of a symbol.
use Rattle.dm_layout.proofs.Names.{◌≡◌, ℕ, ◌+◌, ◌*◌, ◌/◌, ◌%◌, ◌<◌, List, map, length, get_or, refl, sym, ◌∙◌, ap}
use Rattle.dm_layout.proofs.Names.{subst, arith, range_with_len, div-mul-add, mod-mul-add, same_number_lists}
use Rattle.dm_layout.proofs.Names.{All-get_or, All-from_get_or, length-map-range_with_len, get_or-map-range_with_len}
use Rattle.dm_layout.proofs.Names.{SizeEntry, IsSize, codeword_count, WordsView, IsWords, block_of}
use Rattle.dm_layout.specs.symbols.Sizes.{block_length}
use Rattle.dm_layout.specs.symbols.Blocks.{AreBlocks}
use Rattle.dm_layout.proofs.symbols.BlockPlaces.{place_parts}
use Rattle.dm_layout.proofs.symbols.BlockLemmas.{length_of_block, place_inside, word_of_block}
use Rattle.dm_layout.proofs.symbols.TableEntries.{size_facts}

-- The codeword for a place of the symbol, taken from its block.
codeword_at : SizeEntry → (ℕ → List ℕ) → ℕ → ℕ
codeword_at size blocks j = get_or (blocks (j % size.blocks)) (j / size.blocks) 0

-- The codewords of a size that are made of these blocks.
dealt : SizeEntry → (ℕ → List ℕ) → WordsView
dealt size blocks =
    record { size = size; list = map (codeword_at size blocks) (range_with_len 0 (codeword_count size)) }

-- Place j of the codewords made of blocks has codeword j div B of block j mod B.
dealt_at : (size : SizeEntry) (blocks : ℕ → List ℕ) (j : ℕ) → j < codeword_count size
    → get_or (map (codeword_at size blocks) (range_with_len 0 (codeword_count size))) j 0 ≡
    get_or (blocks (j % size.blocks)) (j / size.blocks) 0
unfolding codeword_at
dealt_at size blocks j l =
    get_or-map-range_with_len (codeword_at size blocks) 0 (codeword_count size) j j 0 l (omega arith)

-- Codewords made of the blocks of a size are well-formed codewords of that size.
dealt_words : (size : SizeEntry) (blocks : ℕ → List ℕ) → IsSize size → AreBlocks size blocks →
    IsWords (dealt size blocks)
unfolding dealt
dealt_words size blocks entry are =
    let list = map (codeword_at size blocks) (range_with_len 0 (codeword_count size)) in
    let facts = size_facts size entry in
    let count : length list ≡ codeword_count size =
    length-map-range_with_len (codeword_at size blocks) 0 (codeword_count size) in
    record {
      size = entry;
      count = count;
      bytes = All-from_get_or (λ word. word < 256) list 0 (λ j l.
          let inside : j < codeword_count size = subst (λ (n : ℕ). j < n) count l in
          let parts = place_parts size.blocks (codeword_count size) j (omega (arith, facts.blocks)) inside in
          let block = are (j % size.blocks) parts.block in
          rw (← dealt_at size blocks j inside) at (All-get_or (λ word. word < 256) (blocks (j % size.blocks)) (j /
          size.blocks) 0 (subst (λ (n : ℕ). j / size.blocks < n) (sym block.0) parts.step) block.1));
    }

-- Codewords made of blocks have these blocks.
dealt_block : (size : SizeEntry) (blocks : ℕ → List ℕ) → IsSize size → AreBlocks size blocks → (b : ℕ) → b < size.blocks
    → block_of size.blocks b (map (codeword_at size blocks) (range_with_len 0 (codeword_count size))) ≡ blocks b
unfolding dealt
dealt_block size blocks entry are b lb =
    let words = dealt_words size blocks entry are in
    let long = length_of_block (dealt size blocks) b words lb in
    same_number_lists _ (blocks b) (long ∙ sym (are b lb).0) (λ k l.
    let lk : k < block_length size b = subst (λ (n : ℕ). k < n) long l in
    let j = k * size.blocks + b in
    let inside : j < codeword_count size =
    subst (λ (n : ℕ). j < n) words.count (place_inside (dealt size blocks) b k words lb lk) in
    word_of_block (dealt size blocks) b k words lb lk ∙ dealt_at size blocks j inside
    ∙ ap (λ r. get_or (blocks r) (j / size.blocks) 0) (mod-mul-add k size.blocks b lb)
    ∙ ap (λ q. get_or (blocks b) q 0) (div-mul-add k size.blocks b lb))

-- Lists that can be the blocks of a size are the blocks of some codewords of that size.
pub blocks_make_words : (size : SizeEntry) (blocks : ℕ → List ℕ) → IsSize size → AreBlocks size blocks
    → (w : WordsView) × IsWords w × (w.size ≡ size)
    × ((b : ℕ) → b < size.blocks → block_of size.blocks b w.list ≡ blocks b)
unfolding dealt
blocks_make_words size blocks entry are =
    (dealt size blocks, dealt_words size blocks entry are, refl, dealt_block size blocks entry are)
