-- The tables of slots, computed for the mapping matrix of each size: they are those of the shapes in order, and each
-- cell of a shape lies in the matrix. Its rows have room for the matrix.
use Rattle.dm_layout.proofs.Names.{◌≡◌, true, ◌&&◌, refl, map, ℕ, Bool, nat_eq, nat_le, ◌*◌, list_all, pointwise}
use Rattle.dm_layout.proofs.Names.{mapping_rows, mapping_columns, bytes_of, most_of, order_of, slot_of, rest_order_of}
use Rattle.dm_layout.proofs.Names.{less_of, size_table}
use Rattle.dm_place.proofs.Exported.{few_shapes}
use Rattle.dm_layout.proofs.symbols.LiftedWords.{fits_test}

-- The slots are those of the shapes, and the shapes fit.
abbrev pub slots_test : ℕ → ℕ → Bool
slots_test R C =
    pointwise nat_eq (order_of R C) (map (slot_of (bytes_of C) (most_of C)) (few_shapes R C))
    && list_all (fits_test R C) (few_shapes R C)

pub tested : list_all (λ size. slots_test (mapping_rows size) (mapping_columns size)) size_table ≡ true
unfolding few_shapes size_table
tested = refl

-- Rows and columns are no more than there is room for.
abbrev pub room_test : ℕ → ℕ → Bool
room_test R C = (nat_le R (most_of C) && nat_le C (most_of C)) && nat_le C (8 * bytes_of C)

pub room_tested : list_all (λ size. room_test (mapping_rows size) (mapping_columns size)) size_table ≡ true
unfolding size_table
room_tested = refl

-- No slot is less than what is taken from it.
abbrev pub less_test : ℕ → ℕ → Bool
less_test R C = list_all (nat_le (less_of R C)) (rest_order_of R C)

pub less_tested : list_all (λ size. less_test (mapping_rows size) (mapping_columns size)) size_table ≡ true
unfolding size_table
less_tested = refl
