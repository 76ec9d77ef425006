-- Squares of cells.
use Rattle.dm_layout.proofs.Names.{◌≡◌, ℕ, ◌<◌, Bool, List, get_or, take, sym, ap, get_or-take, is_dark_in, square_by}
use Rattle.dm_layout.proofs.symbols.Exported.{same_rows_by}
use Rattle.dm_layout.specs.Grid.{square_of_rows}

-- Colours that agree in all cells of a square draw the same square.
pub same_squares : (n : ℕ) (f g : ℕ → ℕ → Bool) → ((r c : ℕ) → r < n → c < n → f r c ≡ g r c) →
    square_by n f ≡ square_by n g
same_squares n = same_rows_by n n

-- The rows from the side on don't count.
pub square_of_prefix : (n : ℕ) (rows : List ℕ) → square_of_rows n rows ≡ square_of_rows n (take n rows)
square_of_prefix n rows =
    same_squares n (λ (q : ℕ). is_dark_in (get_or rows q 0)) (λ (q : ℕ). is_dark_in (get_or (take n rows) q 0))
    (λ r c lr lc. ap (λ (x : ℕ). is_dark_in x c) (sym (get_or-take n rows r 0 lr)))
