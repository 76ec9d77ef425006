-- The mapping matrices of the sizes are those of `dm_place`.
use Rattle.dm_layout.proofs.Names.{◌≡◌, Bool, true, false, ◌&&◌, nat_eq, Option, Some, None, refl, ap, list_all}
use Rattle.dm_layout.proofs.Names.{list_any, and_parts, eqb-true, All-weaker, Any-from_list_any, AllPass-from_list_all}
use Rattle.dm_layout.proofs.Names.{row_with_sides, SizeEntry, IsSize, mapping_rows, mapping_columns}
use Rattle.std.specs.Prelude.{Any}
use Rattle.dm_place.specs.Sides.{SidesRow, sides_table}
use Rattle.dm_layout.specs.symbols.Sizes.{size_table, matrix_of, MatricesAgree}
use Rattle.dm_layout.proofs.symbols.TableEntries.{passed_at_size}

-- Whether two matrices have the same rows, columns and number of codewords.
abbrev same_matrix : SidesRow → SidesRow → Bool
same_matrix m n = nat_eq m.rows n.rows && nat_eq m.columns n.columns && nat_eq m.count n.count

-- Then they are the same.
told_matrix : (m n : SidesRow) → same_matrix m n ≡ true → m ≡ n
told_matrix m n h =
    let both = and_parts (nat_eq m.rows n.rows && nat_eq m.columns n.columns) (nat_eq m.count n.count) h in
    let two = and_parts (nat_eq m.rows n.rows) (nat_eq m.columns n.columns) both.0 in
    rw (eqb-true _ _ two.0, eqb-true _ _ two.1, eqb-true _ _ both.1)

-- Whether this is the matrix that was found.
is_found : Option SidesRow → SidesRow → Bool
is_found None m = false
is_found (Some n) m = same_matrix n m

-- Then it was found.
told_found : (o : Option SidesRow) (m : SidesRow) → is_found o m ≡ true → o ≡ Some m
unfolding is_found
told_found None m h = cc
told_found (Some n) m h = ap Some (told_matrix n m h)

-- Whether the mapping matrix of a size is one of `dm_place`.
is_placed : SizeEntry → Bool
is_placed size = is_found (row_with_sides (mapping_rows size) (mapping_columns size)) (matrix_of size)

-- Those of all sizes are.
all_placed : list_all is_placed size_table ≡ true
unfolding size_table sides_table is_found is_placed
all_placed = refl

-- A size that passes the test is one that `dm_place` has.
told_placed : (size : SizeEntry) → is_placed size ≡ true →
    row_with_sides (mapping_rows size) (mapping_columns size) ≡ Some (matrix_of size)
unfolding is_placed
told_placed size h = told_found (row_with_sides (mapping_rows size) (mapping_columns size)) (matrix_of size) h

-- The mapping matrix of each size is one that `dm_place` has, with as many codewords.
pub placed_size : (s : SizeEntry) → IsSize s → row_with_sides (mapping_rows s) (mapping_columns s) ≡ Some (matrix_of s)
placed_size s h = told_placed s (passed_at_size is_placed s all_placed h)

-- Whether some size has this mapping matrix.
is_of_size : SidesRow → Bool
is_of_size matrix = list_any (λ size. same_matrix (matrix_of size) matrix) size_table

-- For each matrix of `dm_place` there is one.
all_of_sizes : list_all is_of_size sides_table ≡ true
unfolding size_table sides_table is_of_size
all_of_sizes = refl

-- A matrix that passes the test is that of a size.
told_of_size : (matrix : SidesRow) → is_of_size matrix ≡ true → Any (λ size. matrix_of size ≡ matrix) size_table
unfolding is_of_size
told_of_size matrix h =
    let met = Any-from_list_any (λ size. same_matrix (matrix_of size) matrix) size_table h in
    (met.0, met.1, met.2, met.3, told_matrix (matrix_of met.1) matrix met.4)

-- The matrices of `dm_place` are those of the sizes.
pub matrices_agree : MatricesAgree
matrices_agree = record {
  each =
      All-weaker (λ size. is_placed size ≡ true)
      (λ size. row_with_sides (mapping_rows size) (mapping_columns size) ≡ Some (matrix_of size)) told_placed size_table
      (AllPass-from_list_all is_placed size_table all_placed);
  no_other =
      All-weaker (λ matrix. is_of_size matrix ≡ true) (λ matrix. Any (λ size. matrix_of size ≡ matrix) size_table)
      told_of_size sides_table (AllPass-from_list_all is_of_size sides_table all_of_sizes);
}
