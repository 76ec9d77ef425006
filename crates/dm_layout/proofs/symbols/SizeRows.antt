-- The rows of numbers by which sizes are looked for.
use Rattle.dm_layout.proofs.Names.{nat_tests, arith, ◌≡◌, ℕ, ◌<◌, Bool, true, false, cond, ◌&&◌, nat_eq, nat_le, List}
use Rattle.dm_layout.proofs.Names.{[], ◌∷◌, map, length, get_or, Option, Some, refl, sym, ◌∙◌, ap, find, AllByRecursion}
use Rattle.dm_layout.proofs.Names.{get_or-map, All-from_recursion, All-get_or, SizeChoice, SizeEntry, IsSize}
use Rattle.dm_layout.proofs.Names.{entry_with, entry_for, takes, at_found, size_table}
use Rattle.std.proofs.Common.{option_map}
use Rattle.dm_layout.specs.declared.symbols.size_rows.TheConstants.{SIZE_ROWS}
use Rattle.dm_layout.specs.symbols.inner.SizeRows.{row_entry, has_sides, takes_sides}
use Rattle.dm_layout.proofs.symbols.TableEntries.{same_in_each}

-- The rows are the table, as the checker finds.
rows_are : map row_entry SIZE_ROWS ≡ size_table
unfolding size_table
rows_are = refl

-- Each row is a size.
sizes_here : AllByRecursion (λ row. IsSize (row_entry row)) SIZE_ROWS
unfolding size_table
sizes_here =
    same_in_each (λ row. entry_with (row_entry row).rows (row_entry row).columns) (λ row. Some (row_entry row))
    SIZE_ROWS
    refl

-- What is found among rows, as a size, is what is found among their sizes by a test that says the same.
found_entry : (q : List ℕ → Bool) (p : SizeEntry → Bool) → ((row : List ℕ) → q row ≡ p (row_entry row)) →
    (rows : List (List ℕ)) → option_map row_entry (find q rows) ≡ find p (map row_entry rows)
found_entry q p same [] = refl
found_entry q p same (row ∷ rows) =
    rw (by_test (q row) (find q rows) (find p (map row_entry rows)) (found_entry q p same rows), same row)
  where
    by_test : (b : Bool) (o : Option (List ℕ)) (e : Option SizeEntry) → option_map row_entry o ≡ e →
        option_map row_entry (cond b (Some row) o) ≡ cond b (Some (row_entry row)) e
    by_test true o e h = refl
    by_test false o e h = h

-- The row that is found is that of a size.
is_size : (q : List ℕ → Bool) (row : List ℕ) → Some row ≡ find q SIZE_ROWS → IsSize (row_entry row)
is_size q row e = at_found (λ row. IsSize (row_entry row)) q SIZE_ROWS row sizes_here (sym e)

module _ (rows columns : ℕ) where
  -- The row with these rows and columns is that of the size with them.
  pub entry_of_sides : (o : Option (List ℕ)) → o ≡ find (λ row. has_sides rows columns (row_entry row)) SIZE_ROWS →
      option_map row_entry o ≡ entry_with rows columns
  entry_of_sides o e =
      ap (option_map row_entry) e
      ∙ found_entry (λ row. has_sides rows columns (row_entry row)) (has_sides rows columns) (λ row. refl) SIZE_ROWS
      ∙ ap (find (has_sides rows columns)) rows_are

  -- It is the row of a size.
  pub size_of_sides : (row : List ℕ) → Some row ≡ find (λ row. has_sides rows columns (row_entry row)) SIZE_ROWS →
      IsSize (row_entry row)
  size_of_sides = is_size (λ row. has_sides rows columns (row_entry row))

-- The test of a row by the size that is wanted.
abbrev pub is_enough : SizeChoice → ℕ → List ℕ → Bool
is_enough choice count row =
    nat_le count (get_or row 6 0)
    && takes_sides choice (get_or row 0 0) (get_or row 1 0) (nat_eq (get_or row 9 0) 1)

-- A choice takes a size by its rows, its columns and its being of the extension.
taken_by_sides : (choice : SizeChoice) (row : List ℕ) →
    takes_sides choice (get_or row 0 0) (get_or row 1 0) (nat_eq (get_or row 9 0) 1) ≡ takes choice (row_entry row)
taken_by_sides x row = grind (arith, nat_tests)

-- Two tests may be made in either order.
turned : (a b : Bool) → (a && b) ≡ (b && a)
turned x y = grind (arith, nat_tests)

module _ (choice : SizeChoice) (count : ℕ) where
  -- The first row that is large enough is that of the smallest size.
  pub entry_of_choice : (o : Option (List ℕ)) → o ≡ find (is_enough choice count) SIZE_ROWS →
      option_map row_entry o ≡ entry_for choice count
  entry_of_choice o e =
      ap (option_map row_entry) e
      ∙ found_entry (is_enough choice count) (λ size. takes choice size && nat_le count size.data_count)
      (λ row. turned (nat_le count (get_or row 6 0)) (takes_sides choice (get_or row 0 0) (get_or row 1 0)
      (nat_eq (get_or row 9 0) 1))
      ∙ ap (λ b. b && nat_le count (get_or row 6 0)) (taken_by_sides choice row)) SIZE_ROWS
      ∙ ap (find (λ size. takes choice size && nat_le count size.data_count)) rows_are

  -- It is the row of a size.
  pub size_of_choice : (row : List ℕ) → Some row ≡ find (is_enough choice count) SIZE_ROWS → IsSize (row_entry row)
  size_of_choice = is_size (is_enough choice count)

-- There are so many sizes.
pub size_count : length size_table ≡ 48
unfolding size_table
size_count = refl

module _ (i : ℕ) (d : List ℕ) (l : i < 48) where
  -- Row i is that of a size.
  pub size_here : IsSize (row_entry (get_or SIZE_ROWS i d))
  size_here =
      All-get_or (λ row. IsSize (row_entry row)) SIZE_ROWS i d l
      (All-from_recursion (λ row. IsSize (row_entry row)) SIZE_ROWS sizes_here)

  -- It is that of entry i of the table.
  pub entry_here : (e : SizeEntry) → row_entry (get_or SIZE_ROWS i d) ≡ get_or size_table i e
  entry_here e = sym (get_or-map row_entry SIZE_ROWS i d e l) ∙ ap (λ xs. get_or xs i e) rows_are
