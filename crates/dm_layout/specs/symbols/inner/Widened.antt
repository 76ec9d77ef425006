-- Rows of a mapping matrix of R rows and C columns as numbers, widened so that no standard shape wraps: row r of the
-- matrix is row r + 2, and its column c is the bit of weight 2^(c + 4). The cell of the matrix at a row and a column is
-- `look row column`.
use Rattle.std.specs.Prelude.{◌≡◌, ℕ, ◌+◌, ◌-◌, ◌%◌, ◌<◌, ◌≤◌, Bool, true, false, List, nat_le}
use Rattle.dm_layout.specs.symbols.inner.Reading.{look_in}

-- The rows of the matrix above this one are in the widened rows, with nothing to their left or to their right.
pub record IsMoved (C row : ℕ) (look : ℕ → ℕ → Bool) (rows : List ℕ) : Type 0 where
  pub inside : (r c : ℕ) → r < row → c < C → look_in rows (r + 2) (c + 4) ≡ look r c
  pub left : (r c : ℕ) → c < 4 → look_in rows r c ≡ false
  pub right : (r c : ℕ) → C + 4 ≤ c → look_in rows r c ≡ false

-- Below the matrix of R rows the rows begin anew at its top.
abbrev pub round : ℕ → ℕ → ℕ
round R row = elim (nat_le R row) [ true ↦ row - R | false ↦ row ]

-- The widened row whose last columns stand left of widened row r: 4 - shift rows further down, round the bottom edge.
abbrev pub source : ℕ → ℕ → ℕ → ℕ
source R shift r = elim (nat_le (R + 2) (r + 4 - shift)) [ true ↦ r + 4 - shift - R | false ↦ r + 4 - shift ]

-- Around the matrix stand the cells to which shapes wrap: to its left cells of the last columns, from
-- 4 - ((C + 4) mod 8) rows further down, and round the bottom edge; above it cells of the last rows, from
-- 4 - ((R + 4) mod 8) columns further right.
pub record IsWidened (R C : ℕ) (look : ℕ → ℕ → Bool) (rows : List ℕ) : Type 0 where
  pub inside : (r c : ℕ) → r < R → c < C → look_in rows (r + 2) (c + 4) ≡ look r c
  pub left : (r c : ℕ) → 2 ≤ r → r < R + 2 → c < 4 → (C + 4) % 8 ≤ r + 2 →
      look_in rows r c ≡ look (round R (r + 2 - (C + 4) % 8)) (C + c - 4)
  pub above : (r c : ℕ) → r < 2 → c < C + 4 → (R + 4) % 8 ≤ c → c - (R + 4) % 8 < C →
      look_in rows r c ≡ look (r + R - 2) (c - (R + 4) % 8)
  pub above_left : (r c : ℕ) → r < 2 → c < (R + 4) % 8 → (R + 4) % 8 ≤ c + 4 →
      look_in rows r c ≡ look (round R (r + R + 2 - (C + 4) % 8)) (C + c - (R + 4) % 8)
