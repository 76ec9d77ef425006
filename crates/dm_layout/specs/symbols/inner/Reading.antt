-- Rows of a mapping matrix that are numbers: the cell of column c is the bit of weight 2^c.
use Rattle.std.specs.Prelude.{ℕ, suc, ◌+◌, ◌-◌, ◌*◌, ◌/◌, ◌%◌, ◌^◌, Bool, false, ◌&&◌, ◌||◌, nat_eq, List, [], ◌∷◌}
use Rattle.std.specs.Prelude.{get_or}
use Rattle.dm_place.specs.declared.shape.Cell.{Cell}
use Rattle.dm_layout.specs.symbols.Symbols.{is_dark_bit}

-- A row that is written as two numbers has its first 128 cells in the first, and those behind them in the second.
abbrev pub whole_row : ℕ → ℕ → ℕ
whole_row row end = end * 2 ^ 128 + row

-- The cell at a row and a column of rows that are numbers is the bit of its column.
abbrev pub look_in : List ℕ → ℕ → ℕ → Bool
look_in rows r c = is_dark_bit (get_or rows r 0) c

-- One of these cells, for the bits of a codeword from bit k + 1 on, lies at this row and column, and its bit is 1.
abbrev pub marks_in : ℕ → ℕ → List Cell → ℕ → ℕ → Bool
marks_in word k [] r c = false
marks_in word k (x ∷ rest) r c =
    (nat_eq r x.row && nat_eq c x.column && nat_eq (word / 2 ^ (8 - (k + 1)) % 2) 1) || marks_in word (suc k) rest r c
