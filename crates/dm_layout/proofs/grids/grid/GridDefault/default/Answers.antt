use Rattle.std.proofs.Common.{◌≡◌, Err, Result, refl, sym}
use Rattle.std.proofs.lemmas.Bool.{false≢true}
use Rattle.std.specs.Prelude.{IsNone}
use Rattle.dm_layout.specs.Sizes.{row_with_side, size_table}
use Rattle.dm_layout.specs.declared.grids.grid.GridFault.{GridFault}
use Rattle.dm_layout.specs.declared.grids.grid.GridFault.TheVariants.{NotSquare, NoSuchSize}
use Rattle.dm_layout.proofs.grids.grid.GridDefault.default.Goals as goal

-- There is no third fault.
no_other : {A : Type 0} (e : GridFault) → (◌≡◌ {A = Result A GridFault} (Err e) (Err NotSquare) → ⊥)
    → (◌≡◌ {A = Result A GridFault} (Err e) (Err NoSuchSize) → ⊥) → ⊥
no_other NotSquare not_square no_such_size = not_square refl
no_other NoSuchSize not_square no_such_size = no_such_size refl

-- A size has ten rows.
ten_is_a_side : IsNone (row_with_side 10) → ⊥
unfolding size_table
ten_is_a_side none = false≢true (sym none)

-- Ten rows are a square.
pub unreachable-requires : goal.unreachable-requires
unreachable-requires c =
    no_other c.in-Err.field-0 (λ e. c.in-Err.ensures.not_square.0 e refl)
    (λ e. ten_is_a_side (c.in-Err.ensures.no_such_size.0 e).1)
