-- What holds of the sizes of more than 128 columns, and of the others.
use Rattle.dm_layout.proofs.Names.{◌≡◌, ◌⊎◌, inl, inr, ℕ, ◌+◌, ◌-◌, ◌*◌, ◌%◌, ◌<◌, ◌≤◌, Bool, true, ◌&&◌, ◌||◌, nat_eq}
use Rattle.dm_layout.proofs.Names.{nat_le, refl, ap, ◌∙◌, arith, list_all, and_parts, cases_lt, eqb-true, leb-true}
use Rattle.dm_layout.proofs.Names.{lt-leb, SizeEntry, IsSize, mapping_rows, mapping_columns, size_table}
use Rattle.dm_layout.proofs.symbols.Sizes.{even_product, second_of}
use Rattle.dm_layout.proofs.symbols.TableEntries.{passed_at_size, size_facts}

-- Six regions lie side by side in such a symbol, each of 20 or 22 columns, so that the last lies across column 128.
pub record IsLong (s : SizeEntry) : Type 0 where
  pub across : s.regions_across ≡ 6
  pub least : 20 ≤ s.region_columns
  pub most : s.region_columns ≤ 22
  pub columns : s.columns ≡ 6 * (s.region_columns + 2)
  pub matrix : mapping_columns s ≡ 6 * s.region_columns

long_test : SizeEntry → Bool
long_test s =
    nat_le s.columns 128 || (nat_eq s.regions_across 6 && (nat_le 20 s.region_columns && nat_le s.region_columns 22))

long_tested : list_all long_test size_table ≡ true
unfolding size_table long_test
long_tested = refl

pub long_size : (s : SizeEntry) → IsSize s → 128 < s.columns → IsLong s
unfolding long_test
long_size s entry wide =
    let facts = size_facts s entry in
    let passed =
    second_of (nat_le s.columns 128) _ (lt-leb s.columns 128 wide) (passed_at_size long_test s long_tested entry) in
    let both =
    and_parts (nat_eq s.regions_across 6) (nat_le 20 s.region_columns && nat_le s.region_columns 22) passed in
    let bounds = and_parts (nat_le 20 s.region_columns) (nat_le s.region_columns 22) both.1 in
    let six : s.regions_across ≡ 6 = eqb-true _ _ both.0 in
    record {
      across = six;
      least = leb-true _ _ bounds.0;
      most = leb-true _ _ bounds.1;
      columns = facts.columns ∙ ap (λ (i : ℕ). i * (s.region_columns + 2)) six;
      matrix = ap (λ (i : ℕ). i * s.region_columns) six;
    }

-- All others have at most 120 columns.
short_test : SizeEntry → Bool
short_test s = nat_le 129 s.columns || nat_le s.columns 120

short_tested : list_all short_test size_table ≡ true
unfolding size_table short_test
short_tested = refl

pub short_size : (s : SizeEntry) → IsSize s → s.columns ≤ 128 → s.columns ≤ 120
unfolding short_test
short_size s entry few =
    leb-true _ _ (second_of (nat_le 129 s.columns) _ (lt-leb 129 s.columns (omega (arith, few)))
    (passed_at_size short_test s short_tested entry))

-- ---- all sizes

-- At most six regions lie side by side, and without the last they end within 128 columns.
across_test : SizeEntry → Bool
across_test s = nat_le s.regions_across 6 && nat_le ((s.regions_across - 1) * (s.region_columns + 2)) 128

across_tested : list_all across_test size_table ≡ true
unfolding size_table across_test
across_tested = refl

pub across_fits : (s : SizeEntry) → IsSize s →
    (s.regions_across ≤ 6) × ((s.regions_across - 1) * (s.region_columns + 2) ≤ 128)
unfolding across_test
across_fits s entry =
    let both =
    and_parts (nat_le s.regions_across 6) (nat_le ((s.regions_across - 1) * (s.region_columns + 2)) 128)
    (passed_at_size across_test s across_tested entry) in
    (leb-true _ _ both.0, leb-true _ _ both.1)

-- A mapping matrix has at most 132 columns.
pub matrix_fits : (s : SizeEntry) → IsSize s → mapping_columns s ≤ 132
matrix_fits s entry = by_columns (cases_lt 128 s.columns)
  where
    by_columns : (128 < s.columns) ⊎ (s.columns ≤ 128) → mapping_columns s ≤ 132
    by_columns (inl wide) = let long = long_size s entry wide in omega (arith, long.matrix, long.most)
    by_columns (inr few) =
        let facts = size_facts s entry in
        let short = short_size s entry few in
        omega (arith, facts.columns_below, short)

-- The mapping matrix of a size has at least six rows and columns, and even numbers of them.
pub record HasMatrix (s : SizeEntry) : Type 0 where
  pub least_rows : 6 ≤ mapping_rows s
  pub least_columns : 6 ≤ mapping_columns s
  pub even_rows : mapping_rows s % 2 ≡ 0
  pub even_columns : mapping_columns s % 2 ≡ 0

pub has_matrix : (s : SizeEntry) → IsSize s → HasMatrix s
has_matrix s entry =
    let facts = size_facts s entry in
    record {
      least_rows = facts.least_matrix_rows;
      least_columns = facts.least_matrix_columns;
      even_rows = even_product s.regions_down s.region_rows facts.even_rows;
      even_columns = even_product s.regions_across s.region_columns facts.even_columns;
    }
