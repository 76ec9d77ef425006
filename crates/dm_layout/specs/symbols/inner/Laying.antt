-- Codewords laid by the rows of their anchors: their bits are scattered from slots into widened rows, which are then
-- folded back into the matrix. Byte k of row r of the slots has, with its bits in the opposite order, the codeword of
-- the k-th anchor of row r; the last row, which lies behind those of all anchors, has that of a corner.
use Rattle.std.specs.Prelude.{ℕ, ◌+◌, ◌-◌, ◌*◌, ◌/◌, ◌%◌, ◌^◌, Bool, ◌&&◌, ◌||◌, nat_eq, nat_le, nat_lt, List, get_or}
use Rattle.std.specs.Prelude.{set, bit_or}
use Rattle.dm_place.specs.Placement.{cells_of}
use Rattle.dm_place.specs.declared.shape.Shape.TheVariants.{Corner1, Corner2, Corner3, Corner4}
use Rattle.dm_layout.specs.symbols.inner.Reading.{look_in, marks_in}
use Rattle.dm_layout.specs.symbols.inner.Slots.{first_column}

-- So many bits of each byte of a row, from bit `low` on, darken column c if the bytes begin at column `first`.
abbrev pub part_of : List ℕ → ℕ → ℕ → ℕ → ℕ → ℕ → Bool
part_of slots r first low count c =
    nat_le first c && (nat_lt ((c - first) % 8) count && look_in slots r (c - first + low))

-- A cell of widened rows that was as `old` says is dark once a row of slots is laid over them, from column `first` on.
abbrev pub with_scattered : Bool → List ℕ → ℕ → ℕ → ℕ → ℕ → Bool
with_scattered old slots row first r c =
    ((old || (nat_eq r row && part_of slots row first 0 2 c)) || (nat_eq r (row + 1) && part_of slots row first 2 3 c))
    || (nat_eq r (row + 2) && part_of slots row first 5 3 c)

-- The codewords whose anchors lie in row r darken column c of a widened row by those of their bits that begin with
-- `low`, `count` of each eight.
abbrev pub by_anchors : ℕ → List ℕ → ℕ → ℕ → ℕ → ℕ → Bool
by_anchors n slots r low count c = nat_lt r n && part_of slots r (first_column r) low count c

-- In rows of slots, of so many bytes each, one more byte is laid over that of its slot.
abbrev pub with_byte : ℕ → List ℕ → ℕ → ℕ → List ℕ
with_byte bytes slots x y =
    set slots (x / bytes) (bit_or (get_or slots (x / bytes) 0) (y * 2 ^ (8 * (x % bytes))))

-- In the widened rows of the codewords, two bits of each lie in the row two above its anchor's, three in the row
-- above the anchor's, and three in the anchor's own.
abbrev pub scattered : ℕ → List ℕ → ℕ → ℕ → Bool
scattered n slots r c =
    by_anchors n slots r 0 2 c
    || ((nat_le 1 r && by_anchors n slots (r - 1) 2 3 c) || (nat_le 2 r && by_anchors n slots (r - 2) 5 3 c))

-- The two rows above a matrix of R rows are laid over its last two rows, 4 - ((R + 4) mod 8) columns further to the
-- right.
abbrev pub lowered : ℕ → (ℕ → ℕ → Bool) → ℕ → ℕ → Bool
lowered R look r c =
    look r c || ((nat_le R r && nat_lt r (R + 2)) && (nat_le 4 (c + (R + 4) % 8) && look (r - R) (c + (R + 4) % 8 - 4)))

-- Once these are laid over it, so are the four columns to the left of C columns over the last four of these,
-- 4 - ((C + 4) mod 8) rows further down; none of these lies above row 4.
abbrev pub moved_in : ℕ → ℕ → (ℕ → ℕ → Bool) → ℕ → ℕ → Bool
moved_in R C look r c =
    lowered R look r c
    || ((nat_le C c && nat_lt c (C + 4)) && ((nat_le 8 (r + (C + 4) % 8) && nat_lt (r + (C + 4) % 8) (R + 2 + 4))
    && lowered R look (r + (C + 4) % 8 - 4) (c - C)))

-- At last the four rows below the matrix are laid over its first four.
abbrev pub folded : ℕ → ℕ → (ℕ → ℕ → Bool) → ℕ → ℕ → Bool
folded R C look r c =
    moved_in R C look (r + 2) (c + 4) || ((nat_le 2 (r + 2) && nat_lt (r + 2) 6) && moved_in R C look (r + 2 + R)
    (c + 4))

-- The codeword of a corner marks a cell of the matrix.
abbrev pub corner_marks : ℕ → ℕ → ℕ → ℕ → ℕ → Bool
corner_marks R C word r c =
    ((nat_eq (R % 8) 4 && nat_eq (C % 8) 4) && marks_in word 0 (cells_of R C Corner1) r c)
    || (((nat_eq (R % 8) 6 && nat_eq (C % 8) 6) && marks_in word 0 (cells_of R C Corner2) r c)
    || (((nat_eq (R % 8) 6 && nat_eq (C % 8) 4) && marks_in word 0 (cells_of R C Corner3) r c)
    || ((nat_eq (R % 8) 6 && nat_eq (C % 8) 0) && marks_in word 0 (cells_of R C Corner4) r c)))
