-- Which codewords are erased, by the marks of a symbol, and that none is where no module is doubtful.
use Rattle.dm_symbol.proofs.Names.{◌≡◌, ℕ, zero, suc, ◌+◌, ◌-◌, ◌/◌, ◌%◌, ◌^◌, ◌<◌, ◌≤◌, Bool, true, false, not, cond}
use Rattle.dm_symbol.proofs.Names.{Standard, erased_by, ◌&&◌, nat_eq, List, [], ◌∷◌, length, get_or, map, Some, None}
use Rattle.dm_symbol.proofs.Names.{refl, sym, ap, subst, ◌∙◌, arith, sum_by, count_by, range_with_len, agree_below_at}
use Rattle.dm_symbol.proofs.Names.{sum_by-cons, place, SizeEntry, mapping_rows, mapping_columns}
use Rattle.dm_symbol.proofs.Names.{codeword_count, SymbolView, WordsView, places_of_block, Holds, is_fault, is_erased}
use Rattle.dm_symbol.proofs.Names.{sure_fault_count, is_mark, marked_in}
use Rattle.std.proofs.Common.{◌||◌, filter}
use Rattle.std.specs.List.{list_any}
use Rattle.dm_place.specs.Placement.{shapes}
use Rattle.dm_code.specs.Erased.{erased_places_from}
use Rattle.dm_layout.specs.symbols.Border.{border_fault_count, mapped_cell}
use Rattle.dm_place.specs.Holding.{bit_of}
use Rattle.dm_place.proofs.Exported.{count_at_sides}
use Rattle.dm_layout.proofs.symbols.Exported.{placed_size}

-- ---- how many places a block has

-- ---- none is doubtful

-- Where no place is erased, the list of the erased places is empty.
pub erased_nowhere : (n : ℕ) (f : ℕ → Bool) → ((j : ℕ) → f j ≡ false) → (xs : List ℕ) →
    erased_places_from n (map f xs) ≡ []
unfolding erased_places_from
erased_nowhere n f none [] = refl
erased_nowhere n f none (x ∷ xs) =
    ap (λ b. cond b (n ∷ erased_places_from (suc n) (map f xs)) (erased_places_from (suc n) (map f xs))) (none x)
    ∙ erased_nowhere (suc n) f none xs

-- Where no module is doubtful, no place is erased.
pub erased_by_none : (size : SizeEntry) (b : ℕ) → erased_by Standard size None b ≡ []
erased_by_none size b =
    erased_nowhere 0 (is_erased size None) (λ j. refl) (places_of_block size.blocks b (codeword_count size))

-- ---- by marks

-- A byte that isn't 0 has a bit that is 1.
byte_has_bit : (x : ℕ) → x < 256 → list_any (λ bit. nat_eq (x / 2 ^ (8 - bit) % 2) 1) (range_with_len 1 8) ≡ is_mark x
byte_has_bit x h = agree_below_at (λ n. list_any (λ bit. nat_eq (n / 2 ^ (8 - bit) % 2) 1) (range_with_len 1 8))
    is_mark 256 x refl h

-- Two tests that agree on a range agree on whether some number of it passes.
pub same_any : (p q : ℕ → Bool) (a n : ℕ) → ((j : ℕ) → a ≤ j → j < a + n → p j ≡ q j)
    → list_any p (range_with_len a n) ≡ list_any q (range_with_len a n)
same_any p q a zero same = refl
same_any p q a (suc n) same =
    ap (λ b. b || list_any p (range_with_len (a + 1) n)) (same a (omega arith) (omega arith))
    ∙ ap (λ b. q a || b) (same_any p q (a + 1) n (λ j low high. same j (omega arith) (omega arith)))

-- Functions that agree on a range give the same at those numbers of it that pass a test.
pub same_filtered : {X : Type 0} (f g : ℕ → X) (p : ℕ → Bool) (a n : ℕ) → ((j : ℕ) → a ≤ j → j < a + n → f j ≡ g j)
    → map f (filter p (range_with_len a n)) ≡ map g (filter p (range_with_len a n))
same_filtered f g p a zero same = refl
same_filtered f g p a (suc n) same =
    first (p a) (same a (omega arith) (omega arith))
    (same_filtered f g p (a + 1) n (λ j low high. same j (omega arith) (omega arith)))
  where
    first : (b : Bool) → f a ≡ g a
        → map f (filter p (range_with_len (a + 1) n)) ≡ map g (filter p (range_with_len (a + 1) n))
        → map f (cond b (a ∷ filter p (range_with_len (a + 1) n)) (filter p (range_with_len (a + 1) n)))
        ≡ map g (cond b (a ∷ filter p (range_with_len (a + 1) n)) (filter p (range_with_len (a + 1) n)))
    first true e rest = ap (λ x. x ∷ map f (filter p (range_with_len (a + 1) n))) e ∙ ap (λ xs. g a ∷ xs) rest
    first false e rest = rest

-- What is asked of what is got is asked at once.
pub map_twice : (f : ℕ → Bool) (g : ℕ → ℕ) (xs : List ℕ) → map f (map g xs) ≡ map (λ x. f (g x)) xs
map_twice f g [] = refl
map_twice f g (x ∷ xs) = ap (λ ys. f (g x) ∷ ys) (map_twice f g xs)

module _ (size : SizeEntry) (rows : List (List Bool)) (marks : List ℕ)
    (h : Holds (record { size = size; rows = rows }) (record { size = size; list = marks })) where
  -- These are the doubtful modules.
  abbrev doubt : SymbolView
  doubt = record { size = size; rows = rows }

  -- A codeword is erased where its mark isn't 0.
  pub erased_by_mark : (j : ℕ) → j < codeword_count size → is_erased size (Some doubt) j ≡ is_mark (get_or marks j 0)
  erased_by_mark j hj =
      let R = mapping_rows size in
      let C = mapping_columns size in
      let count : length (shapes R C) ≡ codeword_count size =
      count_at_sides R C (codeword_count size) (placed_size size h.codewords.size) in
      same_any (λ bit. mapped_cell doubt (place R C j bit).row (place R C j bit).column) (bit_of marks j) 1 8
      (λ bit low high. h.bits j bit (place R C j bit) (record {
        word_in = omega (arith, hj, count);
        from_one = low;
        to_eight =
            omega arith;
        there = refl;
      }))
      ∙ byte_has_bit (get_or marks j 0) (h.codewords.bytes j 0 (omega (arith, hj, h.codewords.count)))

  -- The erased places of a block are those with a mark.
  erased_by_marks : (b : ℕ) → erased_by Standard size (Some doubt) b ≡ marked_in size (Some marks) b
  erased_by_marks b =
      let places = places_of_block size.blocks b in
      let at_mark = λ (j : ℕ). get_or marks j 0 in
      ap (erased_places_from 0) (same_filtered (is_erased size (Some doubt)) (λ j. is_mark (get_or marks j 0))
      (λ j. nat_eq (j % size.blocks) b) 0 (codeword_count size)
      (λ j low high. erased_by_mark j (omega (arith, high)))
      ∙ ap (λ n. map (λ j. is_mark (get_or marks j 0)) (places n)) (sym h.codewords.count)
      ∙ sym (map_twice is_mark at_mark (places (length marks))))

-- Doubtful modules of a size hold marks of that size.
held_of_size : (size : SizeEntry) (doubtful : SymbolView) (marks : WordsView) → doubtful.size ≡ size
    → Holds doubtful marks
    → Holds (record { size = size; rows = doubtful.rows }) (record { size = size; list = marks.list })
held_of_size size doubtful marks of_size h =
    let to_size : marks.size ≡ size = h.same_size ∙ of_size in
    subst (λ s. Holds (record { size = s; rows = doubtful.rows }) (record { size = size; list = marks.list })) of_size
    (subst (λ s. Holds doubtful (record { size = s; list = marks.list })) to_size h)

-- Doubtful modules of the size of a symbol hold the marks.
pub erased_by_held : (size : SizeEntry) (doubtful : SymbolView) (marks : WordsView) (b : ℕ) → doubtful.size ≡ size
    → Holds doubtful marks
    → erased_by Standard size (Some doubtful) b ≡ marked_in size (Some marks.list) b
erased_by_held size doubtful marks b of_size h =
    let here = held_of_size size doubtful marks of_size h in
    ap (λ s. erased_by Standard size (Some (record { size = s; rows = doubtful.rows })) b) of_size
    ∙ erased_by_marks size doubtful.rows marks.list here b

-- A codeword is erased where the mark that these modules hold for it isn't 0.
pub erased_where_marked : (size : SizeEntry) (doubtful : SymbolView) (marks : WordsView) → doubtful.size ≡ size
    → Holds doubtful marks → (j : ℕ) → j < codeword_count size
    → is_erased size (Some doubtful) j ≡ is_mark (get_or marks.list j 0)
erased_where_marked size doubtful marks of_size h j hj =
    let here = held_of_size size doubtful marks of_size h in
    ap (λ s. is_erased size (Some (record { size = s; rows = doubtful.rows })) j) of_size
    ∙ erased_by_mark size doubtful.rows marks.list here j hj

-- ---- borders

-- Tests that agree at each place of a rectangle are passed at as many places.
pub same_counts : (p q : ℕ → ℕ → Bool) (columns a n : ℕ) → ((row column : ℕ) → p row column ≡ q row column)
    → sum_by (λ row. count_by (p row) (range_with_len 0 columns)) (range_with_len a n)
    ≡ sum_by (λ row. count_by (q row) (range_with_len 0 columns)) (range_with_len a n)
same_counts p q columns a zero same = refl
same_counts p q columns a (suc n) same =
    rw (
      sum_by-cons (λ row. count_by (p row) (range_with_len 0 columns)) a (range_with_len (a + 1) n),
      sum_by-cons (λ row. count_by (q row) (range_with_len 0 columns)) a (range_with_len (a + 1) n),
      line 0 columns,
      same_counts p q columns (a + 1) n same,
    )
  where
    line : (b m : ℕ) → count_by (p a) (range_with_len b m) ≡ count_by (q a) (range_with_len b m)
    line b zero = refl
    line b (suc m) =
        rw (
          sum_by-cons (λ c. cond (p a c) 1 0) b (range_with_len (b + 1) m),
          sum_by-cons (λ c. cond (q a c) 1 0) b (range_with_len (b + 1) m),
          same a b,
          line (b + 1) m,
        )

-- A fault of which there is no doubt is a fault.
nothing_doubted : (b : Bool) → b ≡ (b && not false)
nothing_doubted true = refl
nothing_doubted false = refl

-- Where no module is doubtful, each border fault is sure.
pub faults_by_none : (modules : SymbolView) → border_fault_count modules ≡ sure_fault_count modules None
faults_by_none modules =
    same_counts (is_fault modules) (λ row column. is_fault modules row column && not false) modules.size.columns 0
    modules.size.rows
    (λ row column. nothing_doubted (is_fault modules row column))
