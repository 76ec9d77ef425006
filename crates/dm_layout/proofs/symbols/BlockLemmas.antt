-- The blocks of a symbol's codewords.
use Rattle.dm_layout.proofs.Names.{nat_tests, ◌≡◌, ◌≢◌, ℕ, ◌+◌, ◌*◌, ◌/◌, ◌%◌, ◌<◌, ◌≤◌, List, map, length, get_or, set}
use Rattle.dm_layout.proofs.Names.{take, sym, ◌∙◌, ap, subst, arith, below_more, get_or-set_other, get_or-set_same}
use Rattle.dm_layout.proofs.Names.{length-take, range_with_len, mod-mul-add, same_number_lists, mul-le-mul_right}
use Rattle.dm_layout.proofs.Names.{get_or-take, SizeEntry, count_in_block, block_data, codeword_count, WordsView}
use Rattle.dm_layout.proofs.Names.{IsWords, AreOfSize, block_of}
use Rattle.std.proofs.Math.ListN.{length-set}
use Rattle.std.proofs.lemmas.List.Elements.{All-set}
use Rattle.dm_layout.specs.symbols.Sizes.{block_length}
use Rattle.dm_layout.specs.symbols.Words.{data_of}
use Rattle.dm_layout.specs.symbols.Blocks.{HasLengths}
use Rattle.dm_layout.proofs.symbols.TableEntries.{size_facts, block_parts}
use Rattle.dm_layout.proofs.symbols.BlockPlaces.{block_by_steps, length-block_of, get_or-block_of}
use Rattle.dm_layout.proofs.symbols.BlockPlaces.{count_in_block_inside, place_parts}

-- A walk through a block gives the codewords of the block.
pub walk_of_block : (w : WordsView) (B b : ℕ) (list : List ℕ) → b < w.size.blocks → B ≡ w.size.blocks → list ≡ w.list →
    map (λ k. get_or list (k * B + b) 0) (range_with_len 0 (count_in_block (length list) B b))
    ≡ block_of w.size.blocks b w.list
walk_of_block w B b list lb eb el =
    rw (eb, el, block_by_steps)

-- A walk through a block takes as many steps as the block has codewords.
pub steps_of_block : (w : WordsView) (B b : ℕ) (list : List ℕ) → IsWords w → B ≡ w.size.blocks → list ≡ w.list →
    count_in_block (length list) B b ≡ block_length w.size b
steps_of_block w B b list words eb el =
    rw (eb, el, words.count)

-- A block is as long as that block of its size is.
pub length_of_block : (w : WordsView) (b : ℕ) → IsWords w → b < w.size.blocks →
    length (block_of w.size.blocks b w.list) ≡ block_length w.size b
length_of_block w b words lb =
    length-block_of w.size.blocks b w.list lb ∙ ap (λ m. count_in_block m w.size.blocks b) words.count

-- Codeword k of block b is the one at place k * B + b of the symbol.
pub word_of_block : (w : WordsView) (b k : ℕ) → IsWords w → b < w.size.blocks → k < block_length w.size b →
    get_or (block_of w.size.blocks b w.list) k 0 ≡ get_or w.list (k * w.size.blocks + b) 0
word_of_block w b k words lb lk = grind (arith, nat_tests, get_or-block_of)

-- Place k of block b lies within the symbol's codewords.
pub place_inside : (w : WordsView) (b k : ℕ) → IsWords w → b < w.size.blocks → k < block_length w.size b →
    k * w.size.blocks + b < length w.list
place_inside w b k words lb lk =
    rw (← words.count) at (count_in_block_inside w.size.blocks b k (codeword_count w.size) lb lk)

-- ---- a block is put

-- A block is a given list if the codewords of that list stand at the block's places.
pub put_gives : (w v : WordsView) (b : ℕ) (list : List ℕ) → IsWords v → v.size ≡ w.size → b < w.size.blocks →
    length list ≡ block_length w.size b →
    ((k : ℕ) → k < length list → get_or v.list (k * w.size.blocks + b) 0 ≡ get_or list k 0) →
    block_of w.size.blocks b v.list ≡ list
put_gives w v b list words same lb count put =
    grind (arith, nat_tests, length_of_block, same_number_lists, word_of_block)

-- A block is as before if nothing changed at its places.
pub others_stay : (w v : WordsView) (b a : ℕ) → IsWords w → IsWords v → v.size ≡ w.size → a < w.size.blocks → a ≢ b →
    ((j : ℕ) → j % w.size.blocks ≢ b → get_or v.list j 0 ≡ get_or w.list j 0) →
    block_of w.size.blocks a v.list ≡ block_of w.size.blocks a w.list
others_stay w v b a before words same la other keep =
    put_gives w v a (block_of w.size.blocks a w.list) words same la (length_of_block w a before la)
    (λ k l.
    let lk : k < block_length w.size a = subst (λ (n : ℕ). k < n) (length_of_block w a before la) l in
    keep (k * w.size.blocks + a) (λ e. other (sym (mod-mul-add k w.size.blocks a la) ∙ e))
    ∙ sym (word_of_block w a k before la lk))

-- The place of the next codeword of a block lies within the symbol's codewords.
pub next_inside : (w v : WordsView) (B b k : ℕ) (list : List ℕ) → IsWords v → v.size ≡ w.size → B ≡ w.size.blocks →
    b < w.size.blocks → length list ≡ block_length w.size b →
    k < length list → k * B + b < length v.list
next_inside w v B b k list words same eb lb count lk =
    let en : B ≡ v.size.blocks = eb ∙ ap (λ (s : SizeEntry). s.blocks) (sym same) in
    let long : length list ≡ block_length v.size b = count ∙ ap (λ (s : SizeEntry). block_length s b) (sym same) in
    let inside = place_inside v b k words (omega (arith, eb, en, lb)) (subst (λ (n : ℕ). k < n) long lk) in
    subst (λ (n : ℕ). k * n + b < length v.list) (sym en) inside

-- Where one codeword is put, there are as many of the size as before.
pub one_of_size : (size : SizeEntry) (words : List ℕ) (place word : ℕ) → word < 256 → AreOfSize size words
    → AreOfSize size (set words place word)
one_of_size size words place word small h = record {
  size = h.size;
  count = length-set words place word ∙ h.count;
  bytes = All-set (λ (w : ℕ). w < 256) words place word small h.bytes;
}

-- Once one more codeword of a block is put, it and those before it stand at their places.
pub put_one : (B b i : ℕ) (ws list : List ℕ) → b < B → i * B + b < length ws →
    ((k : ℕ) → k < i → get_or ws (k * B + b) 0 ≡ get_or list k 0) →
    (k : ℕ) → k < i + 1 → get_or (set ws (i * B + b) (get_or list i 0)) (k * B + b) 0 ≡ get_or list k 0
put_one B b i ws list lb inside put =
    below_more (λ k. get_or (set ws (i * B + b) (get_or list i 0)) (k * B + b) 0 ≡ get_or list k 0) i
    (λ k l.
    let room : (k + 1) * B ≤ i * B = mul-le-mul_right B (omega arith) in
    let ne : k * B + b ≢ i * B + b = omega (arith, room) in
    get_or-set_other ws (i * B + b) (k * B + b) (get_or list i 0) 0 ne ∙ put k l)
    (get_or-set_same ws (i * B + b) (get_or list i 0) 0 inside)

-- A codeword that is put into a block leaves the places of other blocks as they were.
pub stay_one : (B b i x : ℕ) (ws old : List ℕ) → b < B → ((j : ℕ) → j % B ≢ b → get_or ws j 0 ≡ get_or old j 0) →
    (j : ℕ) → j % B ≢ b → get_or (set ws (i * B + b) x) j 0 ≡ get_or old j 0
stay_one B b i x ws old lb keep j h = grind (arith, nat_tests, mod-mul-add, get_or-set_other)

-- ---- what the blocks tell

-- The codeword at place j is codeword j div B of block j mod B.
word_by_block : (w : WordsView) (j : ℕ) → IsWords w → j < length w.list →
    get_or w.list j 0 ≡ get_or (block_of w.size.blocks (j % w.size.blocks) w.list) (j / w.size.blocks) 0
word_by_block w j words l =
    let facts = size_facts w.size words.size in
    let parts = place_parts w.size.blocks (length w.list) j (omega (arith, facts.blocks)) l in
    ap (λ i. get_or w.list i 0) (sym parts.there)
    ∙ sym (get_or-block_of w.size.blocks (j % w.size.blocks) (j / w.size.blocks) w.list parts.block parts.step)

-- Codewords of one size that agree in all blocks are the same.
pub same_by_blocks : (v w : WordsView) → IsWords v → IsWords w → v.size ≡ w.size →
    ((b : ℕ) → b < v.size.blocks → block_of v.size.blocks b v.list ≡ block_of v.size.blocks b w.list) → v.list ≡ w.list
same_by_blocks v w x y e blocks =
    let eb : w.size.blocks ≡ v.size.blocks = ap (λ (s : SizeEntry). s.blocks) (sym e) in
    let long : length v.list ≡ length w.list = x.count ∙ ap codeword_count e ∙ sym y.count in
    let some = (size_facts v.size x.size).blocks in
    same_number_lists v.list w.list long
    (λ j l.
    word_by_block v j x l
    ∙ ap (λ xs. get_or xs (j / v.size.blocks) 0) (blocks (j % v.size.blocks) (omega (arith, some)))
    ∙ ap (λ B. get_or (block_of B (j % B) w.list) (j / B) 0) (sym eb)
    ∙ sym (word_by_block w j y (omega (arith, long))))

-- The data codewords that are dealt to a block are as many as the table says.
pub length_of_data : (w : WordsView) (b : ℕ) → IsWords w → b < w.size.blocks →
    length (block_of w.size.blocks b (data_of w)) ≡ block_data w.size b
length_of_data w b words lb =
    let short = length-take w.size.data_count w.list in
    let count : length (data_of w) ≡ w.size.data_count = omega (arith, short, words.count) in
    length-block_of w.size.blocks b (data_of w) lb ∙ ap (λ m. count_in_block m w.size.blocks b) count

-- A block begins with those of the symbol's data codewords that are dealt to it.
pub data_of_block : (w : WordsView) (b : ℕ) → IsWords w → b < w.size.blocks →
    take (block_data w.size b) (block_of w.size.blocks b w.list) ≡ block_of w.size.blocks b (data_of w)
data_of_block w b words lb =
    let s = w.size in
    let m = block_data s b in
    let sum = block_parts s words.size b lb in
    let taken = length-take m (block_of s.blocks b w.list) in
    let all = length_of_block w b words lb in
    let short = length-take s.data_count w.list in
    let count : length (data_of w) ≡ s.data_count = omega (arith, short, words.count) in
    let dealt = length_of_data w b words lb in
    same_number_lists (take m (block_of s.blocks b w.list)) (block_of s.blocks b (data_of w))
    (omega (arith, taken, all, sum, dealt))
    (λ k l.
    let lk : k < m = omega (arith, taken) in
    let inside : k * s.blocks + b < s.data_count = count_in_block_inside s.blocks b k s.data_count lb lk in
    let step : k < count_in_block (length (data_of w)) s.blocks b =
    subst (λ (n : ℕ). k < count_in_block n s.blocks b) (sym count) lk in
    get_or-take m (block_of s.blocks b w.list) k 0 lk
    ∙ word_of_block w b k words lb (omega (arith, lk, sum))
    ∙ sym (get_or-take s.data_count w.list (k * s.blocks + b) 0 inside)
    ∙ sym (get_or-block_of s.blocks b k (data_of w) lb step))

-- Codewords of one size whose blocks all begin with the same data codewords have the same data codewords.
pub same_data_by_blocks : (v w : WordsView) → IsWords v → IsWords w → v.size ≡ w.size →
    ((b : ℕ) → b < v.size.blocks → take (block_data v.size b) (block_of v.size.blocks b v.list) ≡
    take (block_data v.size b) (block_of v.size.blocks b w.list)) → data_of v ≡ data_of w
same_data_by_blocks v w x y e blocks =
    let s = v.size in
    let facts = size_facts s x.size in
    let eb : w.size.blocks ≡ s.blocks = ap (λ (t : SizeEntry). t.blocks) (sym e) in
    let long : length v.list ≡ length w.list = x.count ∙ ap codeword_count e ∙ sym y.count in
    let ed : w.size.data_count ≡ s.data_count = ap (λ (t : SizeEntry). t.data_count) (sym e) in
    let mine = length-take s.data_count v.list in
    let other = length-take s.data_count w.list in
    same_number_lists (take s.data_count v.list) (take s.data_count w.list) (omega (arith, mine, other, long))
    (λ j l.
    let lj : j < s.data_count = omega (arith, mine) in
    let lv : j < length v.list = omega (arith, mine) in
    let parts = place_parts s.blocks s.data_count j (omega (arith, facts.blocks)) lj in
    get_or-take s.data_count v.list j 0 lj
    ∙ word_by_block v j x lv
    ∙ sym (get_or-take (block_data s (j % s.blocks)) (block_of s.blocks (j % s.blocks) v.list) (j / s.blocks) 0
    parts.step)
    ∙ ap (λ xs. get_or xs (j / s.blocks) 0) (blocks (j % s.blocks) parts.block)
    ∙ get_or-take (block_data s (j % s.blocks)) (block_of s.blocks (j % s.blocks) w.list) (j / s.blocks) 0 parts.step
    ∙ ap (λ B. get_or (block_of B (j % B) w.list) (j / B) 0) (sym eb)
    ∙ sym (word_by_block w j y (omega (arith, lv, long)))
    ∙ sym (get_or-take s.data_count w.list j 0 lj))
    ∙ ap (λ n. take n w.list) (sym ed)

-- A block of a symbol has the lengths of the table.
pub has_lengths : (w : WordsView) (b : ℕ) → IsWords w → b < w.size.blocks → HasLengths w b
has_lengths w b words lb = record {
  whole = length_of_block w b words lb;
  data_part = length_of_data w b words lb;
  parts = sym (block_parts w.size words.size b lb);
}
