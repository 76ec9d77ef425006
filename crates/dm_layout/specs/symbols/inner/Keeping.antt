-- How symbols and codewords are kept: at the start of arrays that are large enough. The views and the invariants of
-- their types cite this.
use Rattle.std.specs.Prelude.{◌≡◌, ℕ, ◌-◌, ◌≤◌, Bool, List, length, get_or, nat_lt, if◌then◌else◌}
use Rattle.dm_layout.specs.symbols.Sizes.{SizeEntry, IsSize, codeword_count}
use Rattle.dm_layout.specs.symbols.Symbols.{SymbolView, is_dark_bit, rows_by}

-- Codewords of the size are kept in so many bytes if the size stands in the table and has no more codewords.
pub record AreKeptIn (room : ℕ) (size : SizeEntry) : Type 0 where
  pub entry : IsSize size
  pub fits : codeword_count size ≤ room

-- In the numbers of a row, a module before column 128 is a bit of the first, and one from there on a bit of the second.
abbrev pub kept_cell : List ℕ → List ℕ → ℕ → ℕ → Bool
kept_cell rows ends row column =
    if nat_lt column 128 then is_dark_bit (get_or rows row 0) column else is_dark_bit (get_or ends row 0) (column - 128)

-- The symbol of a size that is kept in these numbers has the first of them as its rows.
abbrev pub kept_symbol : SizeEntry → List ℕ → List ℕ → SymbolView
kept_symbol size rows ends = record { size = size; rows = rows_by size.rows size.columns (kept_cell rows ends) }

-- A symbol of the size is kept in these numbers if the size stands in the table and has no more rows than there is room
-- for, and there are as many numbers of each kind as there is room for.
pub record IsKept (room : ℕ) (size : SizeEntry) (rows ends : List ℕ) : Type 0 where
  pub entry : IsSize size
  pub fits : size.rows ≤ room
  pub height : length rows ≡ room
  pub end_height : length ends ≡ room
