-- By the other dealing a block of 144 x 144 has its data codewords and then its check codewords, both dealt from the
-- first block.
use Rattle.dm_symbol.proofs.Names.{◌≡◌, ℕ, zero, suc, ◌+◌, ◌%◌, ◌<◌, List, ◌++◌, length, get_or, map, take, nat_eq}
use Rattle.dm_symbol.proofs.Names.{Option, refl, sym, ap, subst, ◌∙◌, arith, get_or-take, length-take-le}
use Rattle.dm_symbol.proofs.Names.{get_or-map-range_with_len, length-map-range_with_len, erased_places_from, SizeEntry}
use Rattle.dm_symbol.proofs.Names.{IsSize, codeword_count, SymbolView, places_of_block, block_of, Restarted, is_erased}
use Rattle.dm_symbol.proofs.Names.{IsDealtTwoWays, restarted_place, dealt, erased_by, AreOfSize, first_data}
use Rattle.std.proofs.Common.{drop}
use Rattle.std.proofs.lemmas.List.{map-append, get_or-drop, length-drop}
use Rattle.std.proofs.lemmas.Simd.{map-map}
use Rattle.dm_symbol.proofs.Dealings.{largest, size_is}
use Rattle.dm_symbol.proofs.SymbolDoubt.{same_filtered}

-- The places of block b by the other dealing: those of its data codewords, and then those of its check codewords.
abbrev anew : ℕ → List ℕ
anew b = places_of_block 10 b 1558 ++ map (λ i. 1558 + i) (places_of_block 10 b 620)

-- They are those that the definition names: this is computed, block by block.
same_places : (b : ℕ) → b < 10 → map (restarted_place largest) (places_of_block 10 b 2178) ≡ anew b
same_places zero h = refl
same_places (suc zero) h = refl
same_places (suc (suc zero)) h = refl
same_places (suc (suc (suc zero))) h = refl
same_places (suc (suc (suc (suc zero)))) h = refl
same_places (suc (suc (suc (suc (suc zero))))) h = refl
same_places (suc (suc (suc (suc (suc (suc zero)))))) h = refl
same_places (suc (suc (suc (suc (suc (suc (suc zero))))))) h = refl
same_places (suc (suc (suc (suc (suc (suc (suc (suc zero)))))))) h = refl
same_places (suc (suc (suc (suc (suc (suc (suc (suc (suc zero))))))))) h = refl
same_places (suc (suc (suc (suc (suc (suc (suc (suc (suc (suc b)))))))))) h = absurd (omega (arith, h))

module _ (words : List ℕ) (long : length words ≡ 2178) (b : ℕ) (hb : b < 10) where
  -- The codeword at a place.
  abbrev word_at : ℕ → ℕ
  word_at j = get_or words j 0

  -- Those of the data codewords.
  data_dealt : map word_at (places_of_block 10 b 1558) ≡ block_of 10 b (take 1558 words)
  data_dealt =
      same_filtered word_at (λ j. get_or (take 1558 words) j 0) (λ j. nat_eq (j % 10) b) 0 1558
      (λ j low high. sym (get_or-take 1558 words j 0 (omega (arith, high))))
      ∙ ap (λ n. map (λ j. get_or (take 1558 words) j 0) (places_of_block 10 b n))
      (sym (length-take-le 1558 words (omega (arith, long))))

  -- Those of the check codewords.
  checks_dealt : map word_at (map (λ i. 1558 + i) (places_of_block 10 b 620)) ≡ block_of 10 b (drop 1558 words)
  checks_dealt =
      let count : length (drop 1558 words) ≡ 620 = omega (arith, length-drop 1558 words, long) in
      map-map word_at (λ i. 1558 + i) (places_of_block 10 b 620)
      ∙ same_filtered (λ i. word_at (1558 + i)) (λ j. get_or (drop 1558 words) j 0) (λ j. nat_eq (j % 10) b) 0 620
      (λ j low high. sym (get_or-drop 1558 words j 0))
      ∙ ap (λ n. map (λ j. get_or (drop 1558 words) j 0) (places_of_block 10 b n)) (sym count)

  -- So it is of the whole block.
  block_anew : block_of 10 b (dealt Restarted largest words)
      ≡ block_of 10 b (take 1558 words) ++ block_of 10 b (drop 1558 words)
  block_anew =
      let other = dealt Restarted largest words in
      let count : length other ≡ 2178 =
      length-map-range_with_len (λ j. word_at (restarted_place largest j)) 0 2178 in
      ap (λ n. map (λ j. get_or other j 0) (places_of_block 10 b n)) count
      ∙ same_filtered (λ j. get_or other j 0) (λ j. word_at (restarted_place largest j)) (λ j. nat_eq (j % 10) b) 0 2178
      (λ j low high. get_or-map-range_with_len (λ i. word_at (restarted_place largest i)) 0 2178 j j 0
      (omega (arith, high)) (omega arith))
      ∙ sym (map-map word_at (restarted_place largest) (places_of_block 10 b 2178))
      ∙ ap (map word_at) (same_places b hb)
      ∙ map-append word_at (places_of_block 10 b 1558) (map (λ i. 1558 + i) (places_of_block 10 b 620))
      ∙ ap (λ xs. xs ++ map word_at (map (λ i. 1558 + i) (places_of_block 10 b 620))) data_dealt
      ∙ ap (λ xs. block_of 10 b (take 1558 words) ++ xs) checks_dealt

-- A block is its data codewords and its check codewords, each dealt anew.
pub dealt_anew : (size : SizeEntry) (words : List ℕ) (b : ℕ) → IsDealtTwoWays size → AreOfSize size words
    → b < size.blocks → block_of size.blocks b (dealt Restarted size words)
    ≡ block_of size.blocks b (first_data size words) ++ block_of size.blocks b (drop size.data_count words)
dealt_anew size words b two h hb =
    let e : largest ≡ size = sym (size_is size h.size two) in
    let long : length words ≡ 2178 = h.count ∙ ap codeword_count (sym e) in
    let few : b < 10 = omega (arith, hb, ap (λ (s : SizeEntry). s.blocks) e) in
    subst (λ s. block_of s.blocks b (dealt Restarted s words)
    ≡ block_of s.blocks b (first_data s words) ++ block_of s.blocks b (drop s.data_count words)) e
    (block_anew words long b few)

-- Its erased places are those of these places whose codewords are erased.
pub erased_anew : (size : SizeEntry) (doubtful : Option SymbolView) (b : ℕ) → IsDealtTwoWays size → IsSize size
    → b < size.blocks → erased_by Restarted size doubtful b
    ≡ erased_places_from 0 (map (is_erased size doubtful) (places_of_block size.blocks b size.data_count
    ++ map (λ i. size.data_count + i) (places_of_block size.blocks b size.check_count)))
erased_anew size doubtful b two h hb =
    let e : largest ≡ size = sym (size_is size h two) in
    let few : b < 10 = omega (arith, hb, ap (λ (s : SizeEntry). s.blocks) e) in
    subst (λ s. erased_by Restarted s doubtful b
    ≡ erased_places_from 0 (map (is_erased s doubtful) (places_of_block s.blocks b s.data_count
    ++ map (λ i. s.data_count + i) (places_of_block s.blocks b s.check_count)))) e
    (ap (erased_places_from 0) (sym (map-map (is_erased largest doubtful) (restarted_place largest)
    (places_of_block 10 b 2178))
    ∙ ap (map (is_erased largest doubtful)) (same_places b few)))
