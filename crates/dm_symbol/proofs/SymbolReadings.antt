-- The words that a symbol of any size holds are restored to one list of codewords, or are lost by one block.
use Rattle.dm_symbol.proofs.Names.{length_of_block, word_of_block, ◌≡◌, ℕ, ◌+◌, ◌*◌, ◌<◌, List, Option, inl, inr, refl}
use Rattle.dm_symbol.proofs.Names.{sym, subst, arith, All, All-from_get_or, All-get_or, All-take, Extent, Wide}
use Rattle.dm_symbol.proofs.Names.{SizeEntry, block_check, block_length, SymbolView, Dealing, Standard, Restarted}
use Rattle.dm_symbol.proofs.Names.{IsDealtTwoWays, dealt, erased_by, words_with, AreOfSize, AreBlocksNear, first_data}
use Rattle.dm_symbol.proofs.Names.{AreRestoredBy, AreRestored, AreLost, IsFirstLost, Holds, block_of}
use Rattle.dm_layout.proofs.symbols.Exported.{place_inside, same_by_blocks}
use Rattle.dm_code.proofs.Exported.{near_but_one}
use Rattle.std.proofs.lemmas.Bool.{cases_order}
use Rattle.dm_symbol.proofs.SymbolBelow.{block_facts, held_is_one}
use Rattle.dm_symbol.proofs.Dealings.{dealt_of_size, same_dealt}

-- The codewords of a block are bytes.
pub bytes_in_block : (size : SizeEntry) (words : List ℕ) → AreOfSize size words → (b : ℕ) → b < size.blocks
    → All (λ w. w < 256) (block_of size.blocks b words)
bytes_in_block size words h b hb =
    All-from_get_or (λ w. w < 256) (block_of size.blocks b words) 0 (λ i hi.
    let within : i < block_length size b = omega (arith, hi, length_of_block (words_with size words) b h hb) in
    subst (λ w. w < 256) (sym (word_of_block (words_with size words) b i h hb within))
    (All-get_or (λ w. w < 256) words (i * size.blocks + b) 0 (place_inside (words_with size words) b i h hb within)
    h.bytes))

-- The data codewords of a symbol are bytes.
pub data_are_bytes : (size : SizeEntry) (words : List ℕ) → AreOfSize size words
    → All (λ w. w < 256) (first_data size words)
data_are_bytes size words h = All-take (λ w. w < 256) size.data_count words h.bytes

-- Codewords of a symbol with equal blocks are equal.
pub equal_blocks : (size : SizeEntry) (u v : List ℕ) → AreOfSize size u → AreOfSize size v
    → ((b : ℕ) → b < size.blocks → block_of size.blocks b u ≡ block_of size.blocks b v) → u ≡ v
equal_blocks size u v hu hv same = same_by_blocks (words_with size u) (words_with size v) hu hv refl same

-- Only one block is the first to which no codeword is near.
pub first_is_one : (size : SizeEntry) (erased : ℕ → List ℕ) (words : List ℕ) (a b : ℕ) → IsFirstLost size erased words a
    → IsFirstLost size erased words b → a ≡ b
first_is_one size erased words a b ha hb =
    elim (cases_order a b) [
      | inl e ↦ e
      | inr other ↦ elim other [
        | inl h ↦ absurd (ha.lost (hb.first a h).0 (hb.first a h).1)
        | inr h ↦ absurd (hb.lost (ha.first b h).0 (ha.first b h).1)
      ]
    ]

module _ (modules : SymbolView) (doubtful : Option SymbolView) where
  -- The erased places of a block.
  abbrev erased : ℕ → List ℕ
  erased = erased_by Standard modules.size doubtful

  -- The symbol has this size.
  abbrev size : SizeEntry
  size = modules.size

  -- A symbol holds only one list of words, and only one list of codewords is near to them by a dealing.
  near_by_is_one : (d : Dealing) (u c v f : List ℕ) → (d ≡ Restarted → IsDealtTwoWays size)
      → AreRestoredBy d modules doubtful u c → AreRestoredBy d modules doubtful v f → (u ≡ v) × (c ≡ f)
  near_by_is_one d u c v f two hu hv =
      let same : v ≡ u = held_is_one modules v u hv.words_held hu.words_held in
      let places = erased_by d size doubtful in
      let word = dealt d size u in
      let of_size = dealt_of_size d size u two hu.words_held.codewords in
      let near : AreBlocksNear size places word (dealt d size f) =
      subst (λ w. AreBlocksNear size places (dealt d size w) (dealt d size f)) same hv.near in (
        sym same,
        same_dealt d size c f two hu.of_size hv.of_size (equal_blocks size (dealt d size c) (dealt d size f)
            (dealt_of_size d size c two hu.of_size) (dealt_of_size d size f two hv.of_size) (λ b hb.
            let facts = block_facts size hu.of_size.size b hb in
            let long = length_of_block (words_with size word) b of_size hb in
            near_but_one (block_check size) (block_of size.blocks b word) (places b)
            (block_of size.blocks b (dealt d size c))
            (block_of size.blocks b (dealt d size f)) (omega (arith, long, facts.short)) (hu.near b hb) (near b hb))),
      )

  -- What is near by the standard's dealing isn't restored by the other.
  not_otherwise : (extent : Extent) (u c v f : List ℕ) → AreRestoredBy Standard modules doubtful u c
      → AreRestored extent modules doubtful Restarted v f → ⊥
  not_otherwise extent u c v f hu hv =
      let same : v ≡ u = held_is_one modules v u hv.by.words_held hu.words_held in
      let tried = hv.tried refl in
      let first : IsFirstLost size erased u tried.2 = subst (λ w. IsFirstLost size erased w tried.2) same tried.3 in
      first.lost (block_of size.blocks tried.2 c) (hu.near tried.2 first.in_symbol)

  -- A symbol is restored by one dealing.
  dealing_is_one : (x y : Extent) (d e : Dealing) (u c v f : List ℕ) → AreRestored x modules doubtful d u c
      → AreRestored y modules doubtful e v f → d ≡ e
  dealing_is_one x y Standard Standard u c v f hu hv = refl
  dealing_is_one x y Restarted Restarted u c v f hu hv = refl
  dealing_is_one x y Standard Restarted u c v f hu hv = absurd (not_otherwise y u c v f hu.by hv)
  dealing_is_one x y Restarted Standard u c v f hu hv = absurd (not_otherwise x v f u c hv.by hu)

  -- It holds only one list of words, and these are restored to one list of codewords.
  pub restored_is_one : (x y : Extent) (d e : Dealing) (u c v f : List ℕ) → AreRestored x modules doubtful d u c
      → AreRestored y modules doubtful e v f → (u ≡ v) × (c ≡ f) × (d ≡ e)
  restored_is_one x y d e u c v f hu hv =
      let same : e ≡ d = sym (dealing_is_one x y d e u c v f hu hv) in
      let near = near_by_is_one d u c v f (λ f. (hu.tried f).1) hu.by
      (subst (λ z. AreRestoredBy z modules doubtful v f) same hv.by) in
      (near.0, near.1, sym same)

  -- What is restored in some extent is restored in `Wide`.
  pub restored_wide : (extent : Extent) (d : Dealing) (u c : List ℕ) → AreRestored extent modules doubtful d u c
      → AreRestored Wide modules doubtful d u c
  restored_wide extent d u c h = record {
    tried = λ e. (refl, (h.tried e).1, (h.tried e).2, (h.tried e).3);
    by = h.by;
  }

  -- Words that are restored aren't lost.
  pub none_lost : (extent : Extent) (d : Dealing) (v u c : List ℕ) (b : ℕ) → AreLost extent modules doubtful v b
      → AreRestored extent modules doubtful d u c → ⊥
  none_lost extent d v u c b lost h = by d h
    where
      same : Holds modules (words_with size u) → u ≡ v
      same hu = held_is_one modules u v hu lost.words_held

      by : (d : Dealing) → AreRestored extent modules doubtful d u c → ⊥
      by Standard h =
          let near : AreBlocksNear size erased v c =
          subst (λ w. AreBlocksNear size erased w c) (same h.by.words_held) h.by.near in
          lost.first.lost (block_of size.blocks b c) (near b lost.first.in_symbol)
      by Restarted h =
          lost.otherwise c (subst (λ w. AreRestored extent modules doubtful Restarted w c) (same h.by.words_held) h)

  -- Only one block is the first that is lost.
  pub lost_is_one : (extent other : Extent) (u v : List ℕ) (a b : ℕ) → AreLost extent modules doubtful u a
      → AreLost other modules doubtful v b → a ≡ b
  lost_is_one extent other u v a b hu hv =
      let same : v ≡ u = held_is_one modules v u hv.words_held hu.words_held in
      first_is_one size erased u a b hu.first (subst (λ w. IsFirstLost size erased w b) same hv.first)
