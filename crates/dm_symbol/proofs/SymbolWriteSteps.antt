-- Check codewords follow from the data codewords, and the sizes that are chosen for so many of these hold them.
use Rattle.dm_symbol.proofs.Names.{length_of_block, ◌≡◌, ◌≢◌, ℕ, ◌+◌, ◌<◌, ◌≤◌, List, ◌++◌, length, get_or, take, Some}
use Rattle.dm_symbol.proofs.Names.{inl, inr, refl, sym, ap, subst, ◌∙◌, arith, below_more, cases_eq, get_or-take}
use Rattle.dm_symbol.proofs.Names.{length-take-le, take-append_seam, IsCodeword, distance, SizeChoice, SizeEntry}
use Rattle.dm_symbol.proofs.Names.{entry_for, block_data, block_check, block_of, same_data_by_blocks, words_with}
use Rattle.dm_symbol.proofs.Names.{AreOfSize, AreCodewordsOf, first_data}
use Rattle.dm_layout.proofs.symbols.Exported.{data_of_block, enough}
use Rattle.dm_code.proofs.Exported.{codewords_one}
use Rattle.dm_symbol.proofs.Distances.{differing_prefix}
use Rattle.dm_symbol.proofs.SymbolBelow.{block_facts}
use Rattle.dm_symbol.proofs.SymbolReadings.{equal_blocks}

-- ---- check codewords

-- Where a block gets new check codewords, the data codewords of the symbol stay.
pub checks_keep_data : (size : SizeEntry) (u v checks : List ℕ) (b : ℕ) → AreOfSize size u → AreOfSize size v
    → b < size.blocks → block_of size.blocks b v ≡ take (block_data size b) (block_of size.blocks b u) ++ checks
    → ((a : ℕ) → a < size.blocks → a ≢ b → block_of size.blocks a v ≡ block_of size.blocks a u)
    → first_data size v ≡ first_data size u
checks_keep_data size u v checks b hu hv hb put others =
    same_data_by_blocks (words_with size v) (words_with size u) hv hu refl (λ a ha.
    elim (cases_eq a b) [
      | inl e ↦
          let front = take (block_data size b) (block_of size.blocks b u) in
          let long : length front ≡ block_data size b =
          length-take-le (block_data size b) (block_of size.blocks b u)
          (omega (arith, length_of_block (words_with size u) b hu hb, (block_facts size hu.size b hb).parts)) in
          ap (λ x. take (block_data size x) (block_of size.blocks x v)) e
          ∙ ap (take (block_data size b)) put
          ∙ ap (λ n. take n (front ++ checks)) (sym long)
          ∙ take-append_seam front checks
          ∙ sym (ap (λ x. take (block_data size x) (block_of size.blocks x u)) e)
      | inr other ↦ ap (take (block_data size a)) (others a ha other)
    ])

-- One more block is a codeword.
pub one_more_checked : (size : SizeEntry) (u v : List ℕ) (b : ℕ) → b < size.blocks
    → ((a : ℕ) → a < b → IsCodeword (block_check size) (block_of size.blocks a u))
    → IsCodeword (block_check size) (block_of size.blocks b v)
    → ((a : ℕ) → a < size.blocks → a ≢ b → block_of size.blocks a v ≡ block_of size.blocks a u)
    → (a : ℕ) → a < b + 1 → IsCodeword (block_check size) (block_of size.blocks a v)
one_more_checked size u v b hb before here others =
    below_more (λ a. IsCodeword (block_check size) (block_of size.blocks a v)) b
    (λ a l. subst (IsCodeword (block_check size)) (sym (others a (omega (arith, l, hb)) (omega arith))) (before a l))
    here

-- Codewords of a symbol with equal data codewords are equal: the check codewords follow from the data.
pub checks_follow : (size : SizeEntry) (u v : List ℕ) → AreOfSize size u → AreOfSize size v → AreCodewordsOf size u
    → AreCodewordsOf size v → first_data size u ≡ first_data size v → u ≡ v
checks_follow size u v hu hv cu cv same =
    equal_blocks size u v hu hv (λ b hb.
    let f = block_facts size hu.size b hb in
    let n = block_data size b in
    let lu = length_of_block (words_with size u) b hu hb in
    let lv = length_of_block (words_with size v) b hv hb in
    let front : take n (block_of size.blocks b u) ≡ take n (block_of size.blocks b v) =
    data_of_block (words_with size u) b hu hb ∙ ap (λ xs. block_of size.blocks b xs) same
    ∙ sym (data_of_block (words_with size v) b hv hb) in
    let agree : (i : ℕ) → i < n → get_or (block_of size.blocks b u) i 0 ≡ get_or (block_of size.blocks b v) i 0 =
    λ i hi. sym (get_or-take n (block_of size.blocks b u) i 0 hi) ∙ ap (λ xs. get_or xs i 0) front
    ∙ get_or-take n (block_of size.blocks b v) i 0 hi in
    let near : distance (block_of size.blocks b u) (block_of size.blocks b v) ≤ block_check size =
    omega (
      arith,
      differing_prefix (block_of size.blocks b u) (block_of size.blocks b v) n (length (block_of size.blocks b u))
          agree,
      lu,
      f.parts,
    ) in
    codewords_one (block_check size) (block_of size.blocks b u) (block_of size.blocks b v) (cu b hb) (cv b hb) (lu
    ∙ sym lv) (omega (arith, lu, f.short)) near)

-- ---- sizes

-- A size that is chosen for so many codewords holds them.
pub chosen_holds : (choice : SizeChoice) (count : ℕ) (size : SizeEntry) → entry_for choice count ≡ Some size
    → count ≤ size.data_count
chosen_holds choice count size e = enough choice count (Some size) (sym e)
