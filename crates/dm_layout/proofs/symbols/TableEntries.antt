-- What holds for each size of the table.
use Rattle.dm_layout.proofs.Names.{nat_tests, ◌≡◌, ℕ, ◌+◌, ◌*◌, ◌/◌, ◌%◌, ◌<◌, ◌≤◌, Bool, true, false, cond, ◌&&◌}
use Rattle.dm_layout.proofs.Names.{nat_eq, nat_le, List, [], ◌∷◌, Option, Some, None, refl, arith, map, length, set}
use Rattle.dm_layout.proofs.Names.{get_or, below_more, get_or-set_other, get_or-set_same, All, find, AllByRecursion}
use Rattle.dm_layout.proofs.Names.{list_all, list_any, range_with_len, and_parts, eqb-true, leb-true}
use Rattle.dm_layout.proofs.Names.{recursion_from_All, All-weaker, Any-from_list_any, AllPass-from_list_all, SizeEntry}
use Rattle.dm_layout.proofs.Names.{IsSize, area, mapping_rows, mapping_columns, codeword_count, block_data, block_check}
use Rattle.dm_layout.proofs.Names.{most_rows, most_columns, most_modules, most_cells, most_data, most_codewords}
use Rattle.dm_layout.proofs.Names.{most_blocks, most_block_check, all_below, at_found}
use Rattle.dm_layout.specs.symbols.Sizes.{size_table, block_length, longest_block, IsGreatest, IsGreatestOf, Agrees}

-- What is found passes the test, if it does so among the other items.
passes_case : {X : Type 0} (p : X → Bool) (y x : X) (o : Option X) (b : Bool) → p y ≡ b → (o ≡ Some x → p x ≡ true) →
    cond b (Some y) o ≡ Some x → p x ≡ true
passes_case p y x o w t k e = grind (arith, nat_tests)

-- What is found passes the test.
pub found_passes : {X : Type 0} (p : X → Bool) (xs : List X) (x : X) → find p xs ≡ Some x → p x ≡ true
found_passes p [] x e = cc
found_passes p (y ∷ ys) x e = passes_case p y x (find p ys) (p y) refl (found_passes p ys x) e

-- Where nothing is found, nothing passes the test.
pub found_none : {X : Type 0} (p : X → Bool) (xs : List X) → find p xs ≡ None → AllByRecursion (λ x. p x ≡ false) xs
found_none p [] e = tt
found_none p (x ∷ xs) e = none_case (p x) refl e (found_none p xs)
  where
    none_case : (b : Bool) → p x ≡ b → cond b (Some x) (find p xs) ≡ None →
        (find p xs ≡ None → AllByRecursion (λ y. p y ≡ false) xs) → AllByRecursion (λ y. p y ≡ false) (x ∷ xs)
    none_case true t e later = cc
    none_case false t e later = (t, later e)

-- Two values that the checker finds to be the same of each item of a list are the same of each.
pub same_in_each : {X Y : Type 0} (f g : X → Y) (xs : List X) → map f xs ≡ map g xs → AllByRecursion (λ x. f x ≡ g x) xs
same_in_each f g [] h = tt
same_in_each f g (x ∷ xs) h =
    let first : f x ≡ g x = cc in
    let rest : map f xs ≡ map g xs = cc in
    (first, same_in_each f g xs rest)

-- With one more item of a table put into a list, the items before the next are those of the table.
pub put_more : {X : Type 0} (table xs : List X) (i : ℕ) (x : X) → i < length xs →
    ((k : ℕ) (d : X) → k < i → get_or xs k d ≡ get_or table k d) → ((d : X) → x ≡ get_or table i d) →
    (k : ℕ) (d : X) → k < i + 1 → get_or (set xs i x) k d ≡ get_or table k d
put_more table xs i x l before here k d = grind (arith, nat_tests, below_more, get_or-set_other, get_or-set_same)

-- Sizes of the table with the same rows and columns are the same.
pub same_size : (s t : SizeEntry) → IsSize s → IsSize t → s.rows ≡ t.rows → s.columns ≡ t.columns → s ≡ t
same_size s t h k e f = grind (arith, nat_tests)

-- ---- what the checker computes for each size of the table

-- A test that each size of the table passes is passed by a size that stands in it.
pub passed_at_size : (test : SizeEntry → Bool) (s : SizeEntry) → list_all test size_table ≡ true → IsSize s →
    test s ≡ true
passed_at_size test s h size =
    at_found (λ r. test r ≡ true) (λ r. nat_eq r.rows s.rows && nat_eq r.columns s.columns) size_table s
    (recursion_from_All (λ r. test r ≡ true) size_table (AllPass-from_list_all test size_table h)) size

-- Two numbers that are the same in each size of the table are the same for a size that stands in it.
same_at_size : (x y : SizeEntry → ℕ) (s : SizeEntry) → IsSize s → list_all (λ r. nat_eq (x r) (y r)) size_table ≡ true →
    x s ≡ y s
same_at_size x y s size h = eqb-true _ _ (passed_at_size (λ r. nat_eq (x r) (y r)) s h size)

-- A number that is at most another one in each size of the table is so for a size that stands in it.
most_at_size : (x y : SizeEntry → ℕ) (s : SizeEntry) → IsSize s → list_all (λ r. nat_le (x r) (y r)) size_table ≡ true →
    x s ≤ y s
most_at_size x y s size h = leb-true _ _ (passed_at_size (λ r. nat_le (x r) (y r)) s h size)

-- A number that is at most another one for each block of each size is so for each block of a size that stands in the
-- table.
most_at_block : (x y : SizeEntry → ℕ → ℕ) (s : SizeEntry) → IsSize s →
    list_all (λ r. list_all (λ b. nat_le (x r b) (y r b)) (range_with_len 0 r.blocks)) size_table ≡ true →
    (b : ℕ) → b < s.blocks → x s b ≤ y s b
most_at_block x y s size h b l =
    leb-true _ _ (all_below (λ b. nat_le (x s b) (y s b)) s.blocks b
    (passed_at_size (λ r. list_all (λ b. nat_le (x r b) (y r b)) (range_with_len 0 r.blocks)) s h size) l)

-- The numbers of a size are related in these ways.
pub record SizeFacts (s : SizeEntry) : Type 0 where
  pub rows : s.rows ≡ s.regions_down * (s.region_rows + 2)
  pub columns : s.columns ≡ s.regions_across * (s.region_columns + 2)
  pub down : 1 ≤ s.regions_down
  pub across : 1 ≤ s.regions_across
  pub least_rows : 6 ≤ s.region_rows
  pub least_columns : 6 ≤ s.region_columns
  pub even_rows : s.region_rows % 2 ≡ 0
  pub even_columns : s.region_columns % 2 ≡ 0
  pub rows_fit : s.rows ≤ most_rows
  pub columns_fit : s.columns ≤ most_columns
  pub modules : area s ≤ most_modules
  pub cells : mapping_rows s * mapping_columns s ≤ most_cells
  pub all : codeword_count s ≡ mapping_rows s * mapping_columns s / 8
  pub some_data : 1 ≤ s.data_count
  pub data_fits : s.data_count ≤ most_data
  pub codewords : codeword_count s ≤ most_codewords
  pub blocks : 1 ≤ s.blocks
  pub few_blocks : s.blocks ≤ most_blocks
  pub checks : s.check_count ≡ s.blocks * block_check s
  pub some_checks : 5 ≤ block_check s
  pub few_checks : block_check s ≤ most_block_check
  pub shares : s.blocks ≤ s.data_count
  pub region_rows_fit : s.region_rows ≤ most_rows
  pub region_columns_fit : s.region_columns ≤ most_columns
  pub rows_below : mapping_rows s < s.rows
  pub columns_below : mapping_columns s < s.columns
  pub least_matrix_rows : 6 ≤ mapping_rows s
  pub least_matrix_columns : 6 ≤ mapping_columns s
  pub across_fit : s.regions_across ≤ most_columns

-- Each size of the table has these relations between its numbers, as the checker computes, and so has each size.
pub size_facts : (s : SizeEntry) → IsSize s → SizeFacts s
unfolding size_table
size_facts s h = record {
  rows = same_at_size (λ r. r.rows) (λ r. r.regions_down * (r.region_rows + 2)) s h refl;
  columns = same_at_size (λ r. r.columns) (λ r. r.regions_across * (r.region_columns + 2)) s h refl;
  down = most_at_size (λ r. 1) (λ r. r.regions_down) s h refl;
  across = most_at_size (λ r. 1) (λ r. r.regions_across) s h refl;
  least_rows = most_at_size (λ r. 6) (λ r. r.region_rows) s h refl;
  least_columns = most_at_size (λ r. 6) (λ r. r.region_columns) s h refl;
  even_rows = same_at_size (λ r. r.region_rows % 2) (λ r. 0) s h refl;
  even_columns = same_at_size (λ r. r.region_columns % 2) (λ r. 0) s h refl;
  rows_fit = most_at_size (λ r. r.rows) (λ r. most_rows) s h refl;
  columns_fit = most_at_size (λ r. r.columns) (λ r. most_columns) s h refl;
  modules = most_at_size area (λ r. most_modules) s h refl;
  cells = most_at_size (λ r. mapping_rows r * mapping_columns r) (λ r. most_cells) s h refl;
  all = same_at_size codeword_count (λ r. mapping_rows r * mapping_columns r / 8) s h refl;
  some_data = most_at_size (λ r. 1) (λ r. r.data_count) s h refl;
  data_fits = most_at_size (λ r. r.data_count) (λ r. most_data) s h refl;
  codewords = most_at_size codeword_count (λ r. most_codewords) s h refl;
  blocks = most_at_size (λ r. 1) (λ r. r.blocks) s h refl;
  few_blocks = most_at_size (λ r. r.blocks) (λ r. most_blocks) s h refl;
  checks = same_at_size (λ r. r.check_count) (λ r. r.blocks * block_check r) s h refl;
  some_checks = most_at_size (λ r. 5) block_check s h refl;
  few_checks = most_at_size block_check (λ r. most_block_check) s h refl;
  shares = most_at_size (λ r. r.blocks) (λ r. r.data_count) s h refl;
  region_rows_fit = most_at_size (λ r. r.region_rows) (λ r. most_rows) s h refl;
  region_columns_fit = most_at_size (λ r. r.region_columns) (λ r. most_columns) s h refl;
  rows_below = let l = most_at_size (λ r. mapping_rows r + 1) (λ r. r.rows) s h refl in omega (arith, l);
  least_matrix_rows = most_at_size (λ r. 6) mapping_rows s h refl;
  least_matrix_columns = most_at_size (λ r. 6) mapping_columns s h refl;
  across_fit = most_at_size (λ r. r.regions_across) (λ r. most_columns) s h refl;
  columns_below = let l = most_at_size (λ r. mapping_columns r + 1) (λ r. r.columns) s h refl in omega (arith, l);
}

-- No block of a size is too long.
pub short_block : (s : SizeEntry) → IsSize s → (b : ℕ) → b < s.blocks → block_length s b ≤ longest_block
unfolding size_table
short_block s h = most_at_block block_length (λ r b. longest_block) s h refl

-- Each block of a size has data codewords.
pub some_block_data : (s : SizeEntry) → IsSize s → (b : ℕ) → b < s.blocks → 1 ≤ block_data s b
unfolding size_table
some_block_data s h = most_at_block (λ r b. 1) block_data s h refl

-- A block has its data codewords and the check codewords that each block has.
pub block_parts : (s : SizeEntry) → IsSize s → (b : ℕ) → b < s.blocks →
    block_data s b + block_check s ≡ block_length s b
unfolding size_table
block_parts s h b l =
    let f : SizeEntry → Bool =
    λ r. list_all (λ b. nat_eq (block_data r b + block_check r) (block_length r b)) (range_with_len 0 r.blocks) in
    eqb-true _ _ (all_below (λ b. nat_eq (block_data s b + block_check s) (block_length s b)) s.blocks b
    (passed_at_size f s refl h) l)

-- ---- the greatest numbers of the columns

-- A number that some of these sizes has in a column, and that none exceeds, is the greatest of the column.
pub greatest_of : {A : Type 0} (sizes : List A) (column : A → ℕ) (number : ℕ) →
    list_any (λ size. nat_eq (column size) number) sizes ≡ true →
    list_all (λ size. nat_le (column size) number) sizes ≡ true → IsGreatestOf sizes column number
greatest_of sizes column number some none =
    let met = Any-from_list_any (λ size. nat_eq (column size) number) sizes some in
    record {
      met = (met.0, met.1, met.2, met.3, eqb-true _ _ met.4);
      most =
          All-weaker (λ size. nat_le (column size) number ≡ true) (λ size. column size ≤ number)
          (λ size h. leb-true _ _ h)
          sizes (AllPass-from_list_all (λ size. nat_le (column size) number) sizes none);
    }

-- So it is with a column of the table.
pub greatest : (column : SizeEntry → ℕ) (number : ℕ) →
    list_any (λ size. nat_eq (column size) number) size_table ≡ true →
    list_all (λ size. nat_le (column size) number) size_table ≡ true → IsGreatest column number
greatest = greatest_of size_table

-- ---- the numbers of each size agree

-- The test of it.
abbrev agrees : SizeEntry → Bool
agrees r =
    nat_eq r.rows (r.regions_down * (r.region_rows + 2)) && nat_eq r.columns (r.regions_across * (r.region_columns + 2))
    && nat_eq (codeword_count r) (mapping_rows r * mapping_columns r / 8)
    && nat_eq r.check_count (r.blocks * block_check r)

-- Each size of the table passes it, and so its numbers agree.
pub all_agree : All Agrees size_table
unfolding size_table
all_agree =
    All-weaker (λ r. agrees r ≡ true) Agrees (λ r h. told r h) size_table (AllPass-from_list_all agrees size_table refl)
  where
    told : (r : SizeEntry) → agrees r ≡ true → Agrees r
    told r h =
        let three = and_parts _ (nat_eq r.check_count (r.blocks * block_check r)) h in
        let two = and_parts _ (nat_eq (codeword_count r) (mapping_rows r * mapping_columns r / 8)) three.0 in
        let one =
        and_parts (nat_eq r.rows (r.regions_down * (r.region_rows + 2)))
        (nat_eq r.columns (r.regions_across * (r.region_columns + 2))) two.0 in
        record {
          rows = eqb-true _ _ one.0;
          columns = eqb-true _ _ one.1;
          codewords = eqb-true _ _ two.1;
          checks =
              eqb-true _ _ three.1;
        }
