-- What the layers below promise of symbols of any size, as the proofs here cite it.
use Rattle.dm_symbol.proofs.Names.{◌≡◌, ℕ, ◌+◌, ◌*◌, ◌<◌, ◌≤◌, List, [], length, get_or, refl, ap, ◌∙◌, arith}
use Rattle.dm_symbol.proofs.Names.{ext_get_or, length-take, length-take-le, distance, distance_but, SizeEntry, IsSize}
use Rattle.dm_symbol.proofs.Names.{codeword_count, block_data, block_check, block_length, SymbolView, WordsView}
use Rattle.dm_symbol.proofs.Names.{data_of, size_facts, words_with, AreOfSize, length_of_block, word_of_block, Holds}
use Rattle.dm_symbol.proofs.Names.{◌-◌, ◌++◌, take, sym, replicate, first_words, take-append_seam, block_of}
use Rattle.std.proofs.Common.{drop}
use Rattle.std.proofs.lemmas.List.{append-nil, drop_all, length-drop, length-replicate}
use borrow.Rule.Slice.PartMut.{put_mid}
use Rattle.dm_code.specs.Erased.{blank}
use Rattle.dm_layout.specs.symbols.Sizes.{count_in_block}
use Rattle.dm_layout.specs.symbols.Words.{IsWords}
use Rattle.dm_layout.proofs.symbols.Exported.{one_held, short_block, some_block_data, block_parts}

-- No symbol has more data codewords than these.
pub data_fits : (words : WordsView) (list : List ℕ) → IsWords words → list ≡ data_of words → length list ≤ 1558
data_fits words list h is =
    omega (
      arith,
      ap length is,
      length-take words.size.data_count words.list,
      (size_facts words.size h.size).data_fits,
    )

-- The data codewords of a symbol are as many as its size has.
pub data_as_many : (words : WordsView) (list : List ℕ) → IsWords words → list ≡ data_of words
    → length list ≡ words.size.data_count
data_as_many words list h is =
    ap length is ∙ length-take-le words.size.data_count words.list (omega (arith, h.count))

-- A block is as long as a word can be, or shorter, and longer than its check codewords; of these there are 5 to 68.
pub record BlockFacts (size : SizeEntry) (b : ℕ) : Type 0 where
  pub short : block_length size b ≤ 255
  pub some_data : block_check size < block_length size b
  pub parts : block_data size b + block_check size ≡ block_length size b
  pub some_checks : 5 ≤ block_check size
  pub few_checks : block_check size ≤ 68

-- Each block of a size has these numbers.
pub block_facts : (size : SizeEntry) → IsSize size → (b : ℕ) → b < size.blocks → BlockFacts size b
block_facts size h b hb =
    let f = size_facts size h in
    let parts = block_parts size h b hb in
    record {
      short = short_block size h b hb;
      some_data = omega (arith, some_block_data size h b hb, parts);
      parts = parts;
      some_checks = f.some_checks;
      few_checks = f.few_checks;
    }

-- The only block of a symbol is as long as all of its codewords.
only_length : (size : SizeEntry) (b : ℕ) → size.blocks ≡ 1 → b < size.blocks → block_length size b ≡ codeword_count size
only_length size b one hb =
    let first : b ≡ 0 = omega (arith, one, hb) in
    let all : count_in_block (codeword_count size) 1 b ≡ codeword_count size = omega (arith, first) in
    ap (λ n. count_in_block (codeword_count size) n b) one ∙ all

-- The only block of a symbol is all of its codewords.
pub only_block : (size : SizeEntry) (words : List ℕ) → AreOfSize size words → size.blocks ≡ 1 → (b : ℕ)
    → b < size.blocks → block_of size.blocks b words ≡ words
only_block size words h one b hb =
    let whole : block_length size b ≡ codeword_count size = only_length size b one hb in
    let long : length (block_of size.blocks b words) ≡ length words =
    omega (arith, length_of_block (words_with size words) b h hb, whole, h.count) in
    ext_get_or 0 (block_of size.blocks b words) words long (λ i hi.
    let here : i * size.blocks + b ≡ i = omega (arith, ap (λ n. i * n) one, one, hb) in
    word_of_block (words_with size words) b i h hb (omega (arith, hi, long, whole, h.count))
    ∙ ap (λ j. get_or words j 0) here)

-- Where a symbol has one block, it has few codewords.
pub only_short : (size : SizeEntry) (words : List ℕ) → AreOfSize size words → size.blocks ≡ 1
    → (length words ≤ 255) × (block_check size < length words)
only_short size words h one =
    let hb : 0 < size.blocks = omega (arith, one) in
    let f = block_facts size h.size 0 hb in
    let whole = only_length size 0 one hb in
    (omega (arith, f.short, whole, h.count), omega (arith, f.some_data, whole, h.count))

-- As many words as a size has, with others behind them, are its codewords.
pub front_words : (size : SizeEntry) (words rest : List ℕ) → length words ≡ codeword_count size
    → first_words size (words ++ rest) ≡ words_with size words
front_words size words rest count =
    ap (words_with size) (ap (λ n. take n (words ++ rest)) (sym count) ∙ take-append_seam words rest)

-- Room for as many marks has as many.
pub room_for : (room count : ℕ) → count ≤ room → length (take count (replicate {A = ℕ} room 0)) ≡ count
room_for room count few =
    length-take-le count (replicate {A = ℕ} room 0) (omega (arith, few, length-replicate {A = ℕ} room 0))

-- No symbol has more codewords than these.
pub few_words : (size : SizeEntry) (words : List ℕ) → AreOfSize size words → length words ≤ 2178
few_words size words h = omega (arith, h.count, (size_facts size h.size).codewords)

-- What is put at the end of a list stands behind what stays.
pub put_last : (n : ℕ) (xs part : List ℕ) → put_mid n (length xs - n) xs part ≡ take n xs ++ part
put_last n xs part =
    ap (λ r. take n xs ++ (part ++ r)) (drop_all (length xs - n) (drop n xs) (omega (arith, length-drop n xs)))
    ∙ ap (λ r. take n xs ++ r) (append-nil part)

-- ---- near with no place erased

-- But for no place, words differ at as many places as they do.
pub distance_plain : (word other : List ℕ) → distance_but [] word other ≡ distance word other
unfolding blank
distance_plain word other = refl

-- ---- codewords and modules

-- Modules hold only one list of codewords.
pub held_is_one : (modules : SymbolView) (u v : List ℕ) → Holds modules (words_with modules.size u)
    → Holds modules (words_with modules.size v) → u ≡ v
held_is_one modules u v hu hv =
    ap (λ (w : WordsView). w.list) (one_held modules (words_with modules.size u) (words_with modules.size v) hu hv)
