-- Borders (the finder pattern and the alignment patterns) of data regions of any rows and columns, the line of the
-- symbol in which a row or a column of the mapping matrix lies, and the fixed square: ISO/IEC 16022, symbol structure.
use Rattle.std.specs.Prelude.{◌≡◌, ℕ, ◌+◌, ◌*◌, ◌/◌, ◌%◌, ◌<◌, Bool, true, ◌&&◌, ◌||◌, nat_eq, nat_le, if◌then◌else◌}

-- ---- one region with its border: two rows and two columns more than the region has

-- A cell of it belongs to the border if it lies in the left or right column or in the top or bottom row.
abbrev pub is_on_edge : ℕ → ℕ → ℕ → ℕ → Bool
is_on_edge rows columns row column =
    nat_eq column 0 || nat_eq row (rows + 1) || nat_eq row 0 || nat_eq column (columns + 1)

-- A border cell of the left column or the bottom row is dark; another one of the top row is dark if its column is
-- even, and another one of the right column if its row is odd.
abbrev pub edge_is_dark : ℕ → ℕ → ℕ → Bool
edge_is_dark rows row column =
    if nat_eq column 0 || nat_eq row (rows + 1) then true
    else (if nat_eq row 0 then nat_eq (column % 2) 0 else nat_eq (row % 2) 1)

-- ---- the whole symbol

-- A row of the mapping matrix lies in this row of a symbol whose data regions have d rows; a column likewise.
abbrev pub symbol_line : ℕ → ℕ → ℕ
symbol_line d line = line + 2 * (line / d) + 1

-- ---- the fixed square

-- A mapping matrix has a fixed square if its rows and its columns both leave 2 when divided by 4.
abbrev pub has_fixed_square : ℕ → ℕ → Bool
has_fixed_square rows columns = nat_eq (rows % 4) 2 && nat_eq (columns % 4) 2

-- The fixed square is the lower right 2 by 2 cells of a mapping matrix that has one.
abbrev pub is_fixed : ℕ → ℕ → ℕ → ℕ → Bool
is_fixed rows columns row column = has_fixed_square rows columns && nat_le rows (row + 2) && nat_le columns (column + 2)

-- The upper left and the lower right cell of the fixed square are dark, the other two light. Of the matrices of the
-- table only squares have one, so that the dark cells lie on the diagonal.
abbrev pub fixed_is_dark : ℕ → ℕ → Bool
fixed_is_dark row column = nat_eq row column

-- A mapping matrix, of which `look` says what cells are dark, has the fixed square if, where its rows and columns give
-- it one, each cell of it has its colour.
abbrev pub HasFixedSquare : ℕ → ℕ → (ℕ → ℕ → Bool) → Type 0
HasFixedSquare rows columns look =
    (row column : ℕ) → row < rows → column < columns → is_fixed rows columns row column ≡ true →
    look row column ≡ fixed_is_dark row column
