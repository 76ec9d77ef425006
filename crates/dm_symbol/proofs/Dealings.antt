-- The two dealings of 144 x 144: what is dealt otherwise is turned, and what is near by a dealing is one.
use Rattle.dm_symbol.proofs.Names.{◌≡◌, ℕ, ◌+◌, ◌-◌, ◌*◌, ◌/◌, ◌%◌, ◌<◌, false, nat_eq, List, length, get_or, map}
use Rattle.dm_symbol.proofs.Names.{Option, Some, None, inl, inr, refl, sym, ap, subst, ◌∙◌, arith, cases_lt, cond_above}
use Rattle.dm_symbol.proofs.Names.{cond_below, ext_get_or, get_or-map-range_with_len, length-map-range_with_len, Extent}
use Rattle.dm_symbol.proofs.Names.{Usual, Wide, erased_places_from, SizeEntry, IsSize, entry_of, codeword_count}
use Rattle.dm_symbol.proofs.Names.{SymbolView, WordsView, places_of_block, Holds, Dealing, Standard, Restarted}
use Rattle.dm_symbol.proofs.Names.{is_erased, IsDealtTwoWays, restarted_place, dealt, erased_by, AreOfSize, is_mark}
use Rattle.dm_symbol.proofs.Names.{marked_in, turned, turned_place}
use Rattle.dm_layout.specs.symbols.Sizes.{size_table, entry_with}
use Rattle.dm_symbol.proofs.SymbolDoubt.{erased_by_held, erased_by_none, erased_nowhere, erased_where_marked, map_twice}
use Rattle.dm_symbol.proofs.SymbolDoubt.{same_filtered}
use Rattle.dm_symbol.proofs.Turns.{at_turned, inside_1558, length-turned, place_of, turned_again, turned_back}
use Rattle.dm_symbol.proofs.Turns.{turned_bytes}

-- ---- the size

-- The size with 144 rows and columns.
abbrev pub largest : SizeEntry
largest = entry_of 144 144 22 22 6 6 1558 620 10 false

-- The table has it: this is computed.
found : entry_with 144 144 ≡ Some largest
unfolding size_table
found = refl

-- A size that is dealt in two ways is that one.
pub size_is : (size : SizeEntry) → IsSize size → IsDealtTwoWays size → size ≡ largest
size_is size h two =
    let same : ◌≡◌ {A = Option SizeEntry} (Some size) (Some largest) =
    sym h ∙ ap (λ r. entry_with r size.columns) two.0 ∙ ap (λ c. entry_with 144 c) two.1 ∙ found in cc

-- The standard's dealing isn't the other.
pub not_restarted : {X : Type 0} → ◌≡◌ {A = Dealing} Standard Restarted → X
not_restarted e = absurd cc

-- The extent `Usual` isn't `Wide`.
pub not_wide : {X : Type 0} → ◌≡◌ {A = Extent} Usual Wide → X
not_wide e = absurd cc

-- ---- codewords

-- By the other dealing a place has the codeword that it has where they are turned by 1,558 places.
same_place : (j : ℕ) → restarted_place largest j ≡ place_of 1558 j
same_place j =
    let other = 1558 + ((j - 1558) / 10 * 10 + j % 10) in
    let turn = turned_place 1558 (j - 1558) in
    elim (cases_lt j 1558) [
      | inl low ↦ sym (cond_below j 1558 j other low) ∙ cond_below j 1558 j turn low
      | inr high ↦
          let again : j ≡ j - 1558 + 1558 = omega (arith, high) in
          sym (cond_above j 1558 j other other high refl)
          ∙ ap (λ i. 1558 + ((j - 1558) / 10 * 10 + i % 10)) again ∙ cond_above j 1558 j turn turn high refl
    ]

-- So it has them all.
dealt_largest : (words : List ℕ) → length words ≡ 2178 → dealt Restarted largest words ≡ turned 1558 words
dealt_largest words h =
    let long : length (dealt Restarted largest words) ≡ 2178 =
    length-map-range_with_len (λ j. get_or words (restarted_place largest j) 0) 0 2178 in
    ext_get_or 0 (dealt Restarted largest words) (turned 1558 words) (long ∙ sym (length-turned 1558 words h))
    (λ j hj.
    let within : j < 2178 = omega (arith, hj, long) in
    get_or-map-range_with_len (λ i. get_or words (restarted_place largest i) 0) 0 2178 j j 0 within (omega arith)
    ∙ ap (λ i. get_or words i 0) (same_place j)
    ∙ sym (at_turned 1558 words j h within))

module _ (size : SizeEntry) (two : IsDealtTwoWays size) where
  -- There are so many codewords.
  pub count : (words : List ℕ) → AreOfSize size words → length words ≡ 2178
  count words h = h.count ∙ ap codeword_count (size_is size h.size two)

  -- Turned, they are codewords of the size.
  pub turned_of_size : (shift : ℕ) (words : List ℕ) → AreOfSize size words → AreOfSize size (turned shift words)
  turned_of_size shift words h = record {
    size = h.size;
    count = length-turned shift words (count words h) ∙ sym (ap codeword_count (size_is size h.size two));
    bytes = turned_bytes shift words (count words h) h.bytes;
  }

  -- Dealt otherwise, they are turned.
  pub dealt_is_turned : (words : List ℕ) → AreOfSize size words → dealt Restarted size words ≡ turned 1558 words
  dealt_is_turned words h =
      ap (λ s. dealt Restarted s words) (size_is size h.size two) ∙ dealt_largest words (count words h)

  -- Turned back, they are dealt as they were.
  pub dealt_back : (words : List ℕ) → AreOfSize size words → dealt Restarted size (turned 2 words) ≡ words
  dealt_back words h =
      dealt_is_turned (turned 2 words) (turned_of_size 2 words h) ∙ turned_again words (count words h)

  -- What is the same dealt otherwise is the same.
  same_restarted : (u v : List ℕ) → AreOfSize size u → AreOfSize size v
      → dealt Restarted size u ≡ dealt Restarted size v → u ≡ v
  same_restarted u v hu hv e =
      sym (turned_back u (count u hu)) ∙ ap (turned 2) (sym (dealt_is_turned u hu) ∙ e ∙ dealt_is_turned v hv)
      ∙ turned_back v (count v hv)

-- Dealt by either, codewords of a size are codewords of it.
pub dealt_of_size : (d : Dealing) (size : SizeEntry) (words : List ℕ) → (d ≡ Restarted → IsDealtTwoWays size)
    → AreOfSize size words → AreOfSize size (dealt d size words)
dealt_of_size Standard size words two h = h
dealt_of_size Restarted size words two h =
    subst (AreOfSize size) (sym (dealt_is_turned size (two refl) words h)) (turned_of_size size (two refl) 1558 words h)

-- What is the same dealt by one dealing is the same.
pub same_dealt : (d : Dealing) (size : SizeEntry) (u v : List ℕ) → (d ≡ Restarted → IsDealtTwoWays size)
    → AreOfSize size u → AreOfSize size v → dealt d size u ≡ dealt d size v → u ≡ v
same_dealt Standard size u v two hu hv e = e
same_dealt Restarted size u v two hu hv e = same_restarted size (two refl) u v hu hv e

-- There are codewords that are these once they are dealt.
pub undealt : (d : Dealing) (size : SizeEntry) (words : List ℕ) → (d ≡ Restarted → IsDealtTwoWays size)
    → AreOfSize size words → (codewords : List ℕ) × AreOfSize size codewords × (dealt d size codewords ≡ words)
undealt Standard size words two h = (words, h, refl)
undealt Restarted size words two h =
    (turned 2 words, turned_of_size size (two refl) 2 words h, dealt_back size (two refl) words h)

-- ---- erased places

-- Where no module is doubtful, none is.
pub erased_by_nothing : (d : Dealing) (size : SizeEntry) (b : ℕ) → marked_in size None b ≡ erased_by d size None b
erased_by_nothing Standard size b = sym (erased_by_none size b)
erased_by_nothing Restarted size b =
    sym (erased_nowhere 0 (λ j. is_erased size None (restarted_place size j)) (λ j. refl)
    (places_of_block size.blocks b (codeword_count size)))

-- The marks that doubtful modules hold say what is erased by the standard's dealing, and turned, what is by the other.
pub erased_by_standard : (size : SizeEntry) (doubtful : SymbolView) (marks : WordsView) (b : ℕ) → doubtful.size ≡ size
    → Holds doubtful marks → marked_in size (Some marks.list) b ≡ erased_by Standard size (Some doubtful) b
erased_by_standard size doubtful marks b of_size h = sym (erased_by_held size doubtful marks b of_size h)

pub erased_by_turned : (size : SizeEntry) (doubtful : SymbolView) (held : WordsView) (marks : List ℕ) (b : ℕ)
    → IsDealtTwoWays size → doubtful.size ≡ size → Holds doubtful held → marks ≡ turned 1558 held.list
    → marked_in size (Some marks) b ≡ erased_by Restarted size (Some doubtful) b
erased_by_turned size doubtful held marks b two of_size h turn =
    let places = places_of_block size.blocks b in
    let same_size : held.size ≡ size = h.same_size ∙ of_size in
    let words : AreOfSize size held.list = subst (λ s. AreOfSize s held.list) same_size h.codewords in
    let many : codeword_count size ≡ 2178 = ap codeword_count (size_is size words.size two) in
    let long : length held.list ≡ 2178 = words.count ∙ many in
    let count : length marks ≡ codeword_count size = ap length turn ∙ length-turned 1558 held.list long
    ∙ sym many in
    let at_mark = λ (j : ℕ). get_or marks j 0 in
    let same : (j : ℕ) → j < 2178
    → is_mark (get_or marks j 0) ≡ is_erased size (Some doubtful) (restarted_place size j) = λ j hj.
    let place : restarted_place size j ≡ place_of 1558 j =
    ap (λ s. restarted_place s j) (size_is size words.size two) ∙ same_place j in
    ap (λ xs. is_mark (get_or xs j 0)) turn ∙ ap is_mark (at_turned 1558 held.list j long hj)
    ∙ sym (erased_where_marked size doubtful held of_size h (place_of 1558 j)
    (omega (arith, inside_1558 j hj, many)))
    ∙ ap (is_erased size (Some doubtful)) (sym place) in
    ap (erased_places_from 0) (map_twice is_mark at_mark (places (length marks))
    ∙ ap (λ n. map (λ j. is_mark (get_or marks j 0)) (places n)) count
    ∙ same_filtered (λ j. is_mark (get_or marks j 0))
    (λ j. is_erased size (Some doubtful) (restarted_place size j))
    (λ j. nat_eq (j % size.blocks) b) 0 (codeword_count size)
    (λ j low high. same j (omega (arith, high, many))))
