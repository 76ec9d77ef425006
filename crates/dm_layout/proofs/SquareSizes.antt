-- The sizes of squares among the sizes of symbols, as they are kept and looked up.
use Rattle.dm_layout.proofs.Names.{nat_tests, ◌≡◌, ℕ, ◌*◌, ◌<◌, ◌≤◌, Bool, true, false, cond, ◌&&◌, nat_eq, nat_le}
use Rattle.dm_layout.proofs.Names.{Option, Some, None, List, map, length, get_or, refl, sym, ◌∙◌, ap, subst, arith}
use Rattle.dm_layout.proofs.Names.{eq-eqb, All, AllByRecursion, and_parts, eqb-true, leb-true, leb-false, le-leb}
use Rattle.dm_layout.proofs.Names.{get_or-map, All-from_recursion, All-get_or, recursion_from_All, mul-le-mul_left}
use Rattle.dm_layout.proofs.Names.{SizeEntry, IsSize, entry_with, area, SizeRow, IsRow, row_with_side}
use Rattle.dm_layout.proofs.Names.{row_for_words, row_of_entry, symbol_size, largest_side, IsKept}
use Rattle.std.proofs.Math.Nat.{mul-lt-mul_of_pos_right}
use Rattle.dm_layout.specs.symbols.Sizes as sizes
use Rattle.dm_layout.specs.symbols.Sizes.{is_square}
use Rattle.dm_layout.proofs.symbols.Exported.{at_found, found_passes, found_none, same_in_each}
use Rattle.dm_layout.specs.Sizes.{size_table, row_of_symbol}
use Rattle.dm_layout.specs.declared.grids.size.TheConstants.{PLACES}
use Rattle.dm_layout.proofs.TableRows.{enough_for_words, found_row, row_for_words_row, row_facts}
use Rattle.dm_layout.proofs.TableRows.{rows_found, smallest_for_words}
use Rattle.dm_layout.proofs.Squares.{is_size, same_row}

-- ---- sizes of symbols that are kept for squares

-- The size of a symbol is that of a square of at most the largest side.
abbrev is_small : SizeEntry → Bool
is_small size = is_square size && nat_le size.rows largest_side

-- Each such size of the table of all symbols has its row in the table of squares, as the checker finds.
rows_here : AllByRecursion
    (λ e. cond (is_small e) (row_with_side e.rows) None ≡ cond (is_small e) (Some (row_of_entry e)) None)
    sizes.size_table
unfolding size_table sizes.size_table
rows_here =
    same_in_each (λ e. cond (is_small e) (row_with_side e.rows) None)
    (λ e. cond (is_small e) (Some (row_of_entry e)) None) sizes.size_table refl

-- That row stands for the size.
same_here : AllByRecursion
    (λ e. cond (is_small e) (Some (symbol_size (row_of_entry e))) None ≡ cond (is_small e) (Some e) None)
    sizes.size_table
unfolding size_table sizes.size_table
same_here =
    same_in_each (λ e. cond (is_small e) (Some (symbol_size (row_of_entry e))) None)
    (λ e. cond (is_small e) (Some e) None) sizes.size_table refl

-- What is the same where a test is passed is the same.
passed : {X : Type 0} (b : Bool) (x y : Option X) → cond b x None ≡ cond b y None → b ≡ true → x ≡ y
passed true x y e t = e
passed false x y e t = cc

-- A square of at most the largest side is kept.
kept_square : (e : SizeEntry) → IsSize e → is_small e ≡ true → IsKept e
kept_square e size small = record {
  row =
      passed (is_small e) (row_with_side e.rows) (Some (row_of_entry e))
      (at_found _ (λ r. nat_eq r.rows e.rows && nat_eq r.columns e.columns) sizes.size_table e rows_here size) small;
  same =
      let same : Some (symbol_size (row_of_entry e)) ≡ Some e =
      passed (is_small e) (Some (symbol_size (row_of_entry e))) (Some e)
      (at_found _ (λ r. nat_eq r.rows e.rows && nat_eq r.columns e.columns) sizes.size_table e same_here size) small in
      cc;
}

-- So is a size with as many columns as rows, at most the largest side.
pub kept_size : (e : SizeEntry) → IsSize e → e.rows ≡ e.columns → e.rows ≤ largest_side → IsKept e
kept_size e size square fits =
    kept_square e size (rw (eq-eqb, le-leb))

-- Each row of the table is that of its size, as the checker finds.
rows_again : AllByRecursion (λ r. row_of_entry (symbol_size r) ≡ r) size_table
unfolding size_table
rows_again = same_in_each (λ r. row_of_entry (symbol_size r)) (λ r. r) size_table refl

-- The size of a square is kept.
kept_row : (s : SizeRow) → IsRow s → IsKept (symbol_size s)
kept_row s row =
    let again = at_found (λ r. row_of_entry (symbol_size r) ≡ r) (λ r. nat_eq r.side s.side) size_table s rows_again row
    in
    record { row = subst IsRow (sym again) row; same = ap symbol_size again }

-- ---- sizes that are looked for

-- A square that is above the largest side has no row.
large_square : (e : SizeEntry) → nat_le e.rows largest_side ≡ false → row_of_symbol e ≡ None
large_square e large = grind (arith, nat_tests, is_square)

-- A square that isn't has its row.
small_square : (e : SizeEntry) → is_small e ≡ true → row_of_symbol e ≡ Some (row_of_entry e)
small_square e small = ap (λ b. cond b (Some (row_of_entry e)) None) small

-- Where a row with this side would be contradicted, there is none.
no_side : (side : ℕ) (o : Option SizeRow) → row_with_side side ≡ o →
    ((s : SizeRow) → IsRow s → s.side ≡ side → ⊥) → o ≡ None
no_side side None e f = refl
no_side side (Some s) e f = let found = found_row side s e in absurd (f s found.1 found.0)

-- Where the table of all symbols has no square with a side, that of squares has no row with it.
pub no_square : (side : ℕ) → entry_with side side ≡ None → row_with_side side ≡ None
no_square side none =
    no_side side (row_with_side side) refl (λ s row e.
    let size = is_size s row in
    let here : entry_with side side ≡ Some (symbol_size s) = ap (λ n. entry_with n n) (sym e) ∙ size in
    cc)

-- The row with a side is that of the square with this side.
pub one_square : (side : ℕ) (e : SizeEntry) → entry_with side side ≡ Some e → row_with_side side ≡ row_of_symbol e
one_square side e found = by_side (nat_le e.rows largest_side) refl
  where
    sides : (e.rows ≡ side) × (e.columns ≡ side)
    sides =
        let both = and_parts (nat_eq e.rows side) (nat_eq e.columns side)
        (found_passes (λ size. nat_eq size.rows side && nat_eq size.columns side) sizes.size_table e found) in
        (eqb-true _ _ both.0, eqb-true _ _ both.1)

    is_entry : IsSize e
    is_entry = ap (λ n. entry_with n e.columns) sides.0 ∙ ap (entry_with side) sides.1 ∙ found

    square : is_square e ≡ true
    square = eq-eqb e.rows e.columns (sides.0 ∙ sym sides.1)

    by_side : (small : Bool) → nat_le e.rows largest_side ≡ small → row_with_side side ≡ row_of_symbol e
    by_side true fits =
        let small : is_small e ≡ true = ap (λ b. b && nat_le e.rows largest_side) square ∙ fits in
        ap row_with_side (sym sides.0) ∙ (kept_square e is_entry small).row ∙ sym (small_square e small)
    by_side false large =
        no_side side (row_with_side side) refl (λ s row f.
        let far = leb-false _ _ large in
        let near = (row_facts s row).fits in
        omega (arith, far, near, f, sides.0))
        ∙ sym (large_square e large)

-- A square with at most as many modules has at most the other's side.
side_of_area : (m n : ℕ) → m * m ≤ n * n → m ≤ n
side_of_area m n h = by_test (nat_le m n) refl
  where
    by_test : (b : Bool) → nat_le m n ≡ b → m ≤ n
    by_test true t = leb-true m n t
    by_test false t =
        let far = leb-false m n t in
        let less : n * m < m * m = mul-lt-mul_of_pos_right far (omega (arith, far)) in
        let more : n * n ≤ n * m = mul-le-mul_left n (omega (arith, far)) in
        omega (arith, less, more, h)

-- The table of squares has no row with enough data codewords where a row would be contradicted.
no_words : (count : ℕ) (o : Option SizeRow) → row_for_words count ≡ o →
    ((s : SizeRow) → IsRow s → count ≤ s.data_count → ⊥) → o ≡ None
no_words count None e f = refl
no_words count (Some s) e f =
    absurd (f s (row_for_words_row count (Some s) (sym e)) (enough_for_words count (Some s) (sym e)))

-- Where no square has enough data codewords, the table of squares has no row with enough of them.
pub no_square_for : (count : ℕ) → All (λ other. is_square other ≡ true → other.data_count < count) sizes.size_table →
    row_for_words count ≡ None
no_square_for count none =
    no_words count (row_for_words count) refl (λ s row l.
    let few =
    at_found (λ other. is_square other ≡ true → other.data_count < count)
    (λ r. nat_eq r.rows s.side && nat_eq r.columns s.side) sizes.size_table (symbol_size s)
    (recursion_from_All _ sizes.size_table none) (is_size s row) (eq-eqb s.side s.side refl) in
    omega (arith, few, l))

-- The row with enough data codewords is that of the smallest square with enough of them.
pub one_square_for : (count : ℕ) (e : SizeEntry) → IsSize e → is_square e ≡ true → count ≤ e.data_count →
    All (λ other. is_square other ≡ true → count ≤ other.data_count → area e ≤ area other) sizes.size_table →
    row_for_words count ≡ row_of_symbol e
one_square_for count e size square enough smallest = by_side (nat_le e.rows largest_side) refl
  where
    no_larger : (s : SizeRow) → IsRow s → count ≤ s.data_count → e.rows ≤ s.side
    no_larger s row l =
        let below =
        at_found (λ other. is_square other ≡ true → count ≤ other.data_count → area e ≤ area other)
        (λ r. nat_eq r.rows s.side && nat_eq r.columns s.side) sizes.size_table (symbol_size s)
        (recursion_from_All _ sizes.size_table smallest) (is_size s row) (eq-eqb s.side s.side refl) l in
        side_of_area e.rows s.side (rw (← eqb-true e.rows e.columns square) at below)

    by_row : (o : Option SizeRow) → row_for_words count ≡ o → IsRow (row_of_entry e) → o ≡ Some (row_of_entry e)
    by_row None f row =
        let few =
        at_found (λ r. nat_le count r.data_count ≡ false) (λ r. nat_eq r.side e.rows) size_table (row_of_entry e)
        (found_none (λ r. nat_le count r.data_count) size_table f) row in
        let far = leb-false count e.data_count few in
        absurd (omega (arith, far, enough))
    by_row (Some s) f row =
        let its = row_for_words_row count (Some s) (sym f) in
        let more = no_larger s its (enough_for_words count (Some s) (sym f)) in
        let less =
        at_found (λ r. count ≤ r.data_count → s.side ≤ r.side) (λ r. nat_eq r.side e.rows) size_table (row_of_entry e)
        (recursion_from_All _ size_table (smallest_for_words count (Some s) (sym f))) row enough in
        ap Some (same_row s (row_of_entry e) its row (omega (arith, more, less)))

    by_side : (small : Bool) → nat_le e.rows largest_side ≡ small → row_for_words count ≡ row_of_symbol e
    by_side true fits =
        let small : is_small e ≡ true = ap (λ b. b && nat_le e.rows largest_side) square ∙ fits in
        by_row (row_for_words count) refl (kept_square e size small).row ∙ sym (small_square e small)
    by_side false large =
        no_words count (row_for_words count) refl (λ s row l.
        let far = leb-false _ _ large in
        let near = (row_facts s row).fits in
        let more = no_larger s row l in
        omega (arith, far, near, more))
        ∙ sym (large_square e large)

-- ---- the squares in the table of all symbols

-- At these places the table of all symbols has the squares, as the checker finds.
squares_at : (d : SizeEntry) → map (λ p. get_or sizes.size_table p d) PLACES ≡ map symbol_size size_table
unfolding size_table sizes.size_table
squares_at d = refl

-- There are so many.
pub square_count : length size_table ≡ 21
unfolding size_table
square_count = refl

module _ (symbols : List SizeEntry) (same : symbols ≡ sizes.size_table) (i : ℕ) (d : SizeEntry) (l : i < 21) where
  -- Place i has the size of row i.
  square_at : (e : SizeRow) → get_or symbols (get_or PLACES i 0) d ≡ symbol_size (get_or size_table i e)
  square_at e =
      ap (λ xs. get_or xs (get_or PLACES i 0) d) same
      ∙ sym (get_or-map (λ p. get_or sizes.size_table p d) PLACES i 0 (symbol_size e) l)
      ∙ ap (λ xs. get_or xs i (symbol_size e)) (squares_at d)
      ∙ get_or-map symbol_size size_table i e (symbol_size e) (omega (arith, l, square_count))

  -- Row i is one of the table.
  row_here : (e : SizeRow) → IsRow (get_or size_table i e)
  row_here e =
      All-get_or IsRow size_table i e (omega (arith, l, square_count)) (All-from_recursion IsRow size_table rows_found)

  -- The size at place i is kept.
  pub kept_at : IsKept (get_or symbols (get_or PLACES i 0) d)
  kept_at =
      let e : SizeRow = row_of_entry d in
      subst IsKept (sym (square_at e)) (kept_row (get_or size_table i e) (row_here e))

  -- It is that of row i.
  pub row_at : (e : SizeRow) → row_of_entry (get_or symbols (get_or PLACES i 0) d) ≡ get_or size_table i e
  row_at e =
      ap row_of_entry (square_at e)
      ∙ at_found (λ r. row_of_entry (symbol_size r) ≡ r) (λ r. nat_eq r.side (get_or size_table i e).side) size_table
      (get_or size_table i e) rows_again (row_here e)
