-- The codewords of the anchors of a row as the bytes of one number, with their bits in the opposite order, and where
-- each codeword stands. The anchors of row r have columns that leave (3r + 4) mod 8 when divided by 8.
use Rattle.std.specs.Prelude.{◌≡◌, ◌⊎◌, ℕ, ◌+◌, ◌-◌, ◌*◌, ◌/◌, ◌%◌, ◌^◌, ◌<◌, Bool, ◌&&◌, ◌||◌, nat_eq, nat_le, nat_lt}
use Rattle.std.specs.Prelude.{List, [], ◌∷◌, ◌++◌, map, take, drop, get_or, length, if◌then◌else◌}
use Rattle.std.specs.Int.{bit_at}
use Rattle.std.specs.Simd.{first_chunks}
use Rattle.dm_layout.specs.symbols.Symbols.{is_dark_bit}
use Rattle.dm_layout.specs.symbols.inner.Reading.{look_in}
use Rattle.dm_place.specs.Placement.{cells_of}
use Rattle.dm_place.specs.declared.shape.Cell.{Cell}
use Rattle.dm_place.specs.declared.shape.Shape.{Shape}
use Rattle.dm_place.specs.declared.shape.Shape.TheVariants.{Standard, Corner1, Corner2, Corner3, Corner4}
use Rattle.dm_layout.specs.declared.symbols.order_rows.TheConstants.{ORDER_8_8, ORDER_10_10, ORDER_12_12, ORDER_14_14}
use Rattle.dm_layout.specs.declared.symbols.order_rows.TheConstants.{ORDER_16_16, ORDER_18_18, ORDER_20_20}
use Rattle.dm_layout.specs.declared.symbols.order_rows.TheConstants.{ORDER_22_22, ORDER_24_24, ORDER_28_28}
use Rattle.dm_layout.specs.declared.symbols.order_rows.TheConstants.{ORDER_36_36, ORDER_44_44, ORDER_56_56}
use Rattle.dm_layout.specs.declared.symbols.order_rows.TheConstants.{ORDER_108_108, ORDER_120_120, ORDER_132_132}
use Rattle.dm_layout.specs.declared.symbols.order_rows.TheConstants.{ORDER_6_16, ORDER_6_28, ORDER_6_132}
use Rattle.dm_layout.specs.declared.symbols.order_rows.TheConstants.{ORDER_10_24, ORDER_10_32, ORDER_14_32}
use Rattle.dm_layout.specs.declared.symbols.order_rows.TheConstants.{ORDER_14_44, ORDER_6_44, ORDER_6_56, ORDER_6_72}
use Rattle.dm_layout.specs.declared.symbols.order_rows.TheConstants.{ORDER_6_88, ORDER_6_108, ORDER_10_56}
use Rattle.dm_layout.specs.declared.symbols.order_rows.TheConstants.{ORDER_10_80, ORDER_14_56, ORDER_18_32}
use Rattle.dm_layout.specs.declared.symbols.order_rows.TheConstants.{ORDER_18_40, ORDER_18_56, ORDER_20_44}
use Rattle.dm_layout.specs.declared.symbols.order_rows.TheConstants.{ORDER_22_44, ORDER_22_56, ORDER_24_36}
use Rattle.dm_layout.specs.declared.symbols.order_rows.TheConstants.{ORDER_24_44, ORDER_24_56}

-- A number goes on with the bits of these cells, in widened rows.
abbrev pub bits_in : List ℕ → ℕ → List Cell → ℕ
bits_in rows a [] = a
bits_in rows a (x ∷ rest) = bits_in rows (2 * a + bit_at (get_or rows (x.row + 2) 0) (x.column + 4)) rest

-- These cells, in widened rows, have the bits of this codeword.
abbrev pub word_in : List ℕ → List Cell → ℕ
word_in rows cells = bits_in rows 0 cells

-- A reversed byte has its bits in the opposite order.
abbrev pub reversed_bits : ℕ → ℕ
reversed_bits x =
    128 * (x % 2) + 64 * (x / 2 % 2) + 32 * (x / 4 % 2) + 16 * (x / 8 % 2) + 8 * (x / 16 % 2) + 4 * (x / 32 % 2)
    + 2 * (x / 64 % 2) + x / 128 % 2

-- Three rows are joined in one: each byte has, from its lowest bit on, the lowest two bits of that byte of the first
-- row, the lowest three of that of the second, and the lowest three of that of the third.
abbrev pub is_joined : ℕ → ℕ → ℕ → ℕ → Bool
is_joined first second third column =
    ((is_dark_bit first column && nat_lt (column % 8) 2)
    || (nat_le 2 column && (is_dark_bit second (column - 2) && nat_lt ((column - 2) % 8) 3)))
    || (nat_le 5 column && (is_dark_bit third (column - 5) && nat_lt ((column - 5) % 8) 3))

-- The codewords whose anchors lie in row r begin at this column of the widened rows.
abbrev pub first_column : ℕ → ℕ
first_column r = (4 + 3 * r) % 8 + 2

-- Byte k of this number, for each 8k below the C columns of a mapping matrix, has the cells of the shape that begins
-- there if its anchor lies in row r, as widened rows have them, in the opposite order. No anchor need lie there.
pub record IsJoined (C : ℕ) (rows : List ℕ) (r x : ℕ) : Type 0 where
  pub first : (k t : ℕ) → 8 * k < C → t < 2 → is_dark_bit (x / 2 ^ (8 * k) % 256) t ≡
      look_in rows r (first_column r + (8 * k + t))
  pub second : (k t : ℕ) → 8 * k < C → t < 3 → is_dark_bit (x / 2 ^ (8 * k) % 256) (2 + t) ≡
      look_in rows (r + 1) (first_column r + (8 * k + t))
  pub third : (k t : ℕ) → 8 * k < C → t < 3 → is_dark_bit (x / 2 ^ (8 * k) % 256) (5 + t) ≡
      look_in rows (r + 2) (first_column r + (8 * k + t))

-- Each row of the matrix is joined in its number.
abbrev pub AreJoined : ℕ → ℕ → List ℕ → List ℕ → Type 0
AreJoined R C rows news = (r : ℕ) → r < R → IsJoined C rows r (get_or news r 0)

-- In rows of so many bytes a slot is that of a corner, or lies in the rows of a mapping matrix of at most `most` rows
-- and columns, of which eight times as many as a row has bytes have room.
abbrev pub HasSlot : ℕ → ℕ → ℕ → Type 0
HasSlot bytes most x = (x ≡ bytes * most) ⊎ ((x / bytes < most) × (8 * (x % bytes) < most))

-- Bytes, each below 256, are one number, whose lowest byte is the first.
unfoldable pub in_bytes : List ℕ → ℕ
in_bytes [] = 0
in_bytes (b ∷ bs) = b + 256 * in_bytes bs

-- Rows of slots are numbers, a row each.
abbrev pub slot_numbers : List (List ℕ) → List ℕ
slot_numbers rows = map in_bytes rows

-- Bytes stand row by row, so many in each. What fills no row is left out.
abbrev pub slot_rows : ℕ → List ℕ → List (List ℕ)
slot_rows count bytes = first_chunks count (length bytes / count) bytes

-- In rows of so many bytes this is the byte of a slot, and 0 behind the last row.
abbrev pub slot_byte : ℕ → List ℕ → ℕ → ℕ
slot_byte bytes rows x = get_or rows (x / bytes) 0 / 2 ^ (8 * (x % bytes)) % 256

-- The codeword of a corner is the lowest byte of the row behind those of `most` rows of a matrix, with its bits in the
-- opposite order.
abbrev pub corner_in : ℕ → List ℕ → ℕ
corner_in most news = reversed_bits (get_or news most 0 % 256)

-- The codewords of a mapping matrix of R rows, at most `most`, and C columns stand in their slots, which are the rows
-- `news`, as the widened rows `rows` have them.
pub record HasSlots (most R C : ℕ) (rows news : List ℕ) : Type 0 where
  pub anchors : AreJoined R C rows news
  pub corner1 : R % 8 ≡ 4 → C % 8 ≡ 4 → corner_in most news ≡ word_in rows (cells_of R C Corner1)
  pub corner2 : R % 8 ≡ 6 → C % 8 ≡ 6 → corner_in most news ≡ word_in rows (cells_of R C Corner2)
  pub corner3 : R % 8 ≡ 6 → C % 8 ≡ 4 → corner_in most news ≡ word_in rows (cells_of R C Corner3)
  pub corner4 : R % 8 ≡ 6 → C % 8 ≡ 0 → corner_in most news ≡ word_in rows (cells_of R C Corner4)

-- In rows of so many bytes, as many as `most` and one more, the codeword of a standard shape has slot
-- bytes * r + c div 8, r and c being the row and the column of its anchor, and that of a corner the first slot of the
-- last row.
abbrev pub slot_of : ℕ → ℕ → Shape → ℕ
slot_of bytes most (Standard r c) = bytes * r + c / 8
slot_of bytes most Corner1 = bytes * most
slot_of bytes most Corner2 = bytes * most
slot_of bytes most Corner3 = bytes * most
slot_of bytes most Corner4 = bytes * most

-- Rows for a mapping matrix of C columns have room for so many rows and columns.
abbrev pub most_of : ℕ → ℕ
most_of C = if nat_le C 56 then 56 else (if nat_le C 120 then 120 else 132)

-- Their rows of slots have so many bytes.
abbrev pub bytes_of : ℕ → ℕ
bytes_of C = if nat_le C 56 then 8 else (if nat_le C 120 then 16 else 32)

-- The slots of a square matrix come in the order of its codewords, where they have a table of their own.
abbrev pub square_order_of : ℕ → List ℕ
square_order_of n =
    if nat_eq n 8 then ORDER_8_8 else (
    if nat_eq n 10 then ORDER_10_10 else (
    if nat_eq n 12 then ORDER_12_12 else (
    if nat_eq n 14 then ORDER_14_14 else (
    if nat_eq n 16 then ORDER_16_16 else (
    if nat_eq n 18 then ORDER_18_18 else (
    if nat_eq n 20 then ORDER_20_20 else (
    if nat_eq n 22 then ORDER_22_22 else (
    if nat_eq n 24 then ORDER_24_24 else (
    if nat_eq n 28 then ORDER_28_28 else (
    if nat_eq n 36 then ORDER_36_36 else (
    if nat_eq n 44 then ORDER_44_44 else (
    if nat_eq n 108 then ORDER_108_108 else (
    ORDER_132_132)))))))))))))

-- So do those of a rectangle of 6 rows.
abbrev pub order_in_6_of : ℕ → List ℕ
order_in_6_of columns =
    if nat_eq columns 16 then ORDER_6_16 else (
    if nat_eq columns 28 then ORDER_6_28 else (
    if nat_eq columns 44 then ORDER_6_44 else (
    if nat_eq columns 56 then ORDER_6_56 else (
    if nat_eq columns 72 then ORDER_6_72 else (
    if nat_eq columns 88 then ORDER_6_88 else (
    if nat_eq columns 108 then ORDER_6_108 else (
    ORDER_6_132)))))))

-- So do those of a rectangle of 10 rows.
abbrev pub order_in_10_of : ℕ → List ℕ
order_in_10_of columns =
    if nat_eq columns 24 then ORDER_10_24 else (
    if nat_eq columns 32 then ORDER_10_32 else (
    if nat_eq columns 56 then ORDER_10_56 else (
    ORDER_10_80)))

-- So do those of a rectangle of 14 rows.
abbrev pub order_in_14_of : ℕ → List ℕ
order_in_14_of columns =
    if nat_eq columns 32 then ORDER_14_32 else (
    if nat_eq columns 44 then ORDER_14_44 else (
    ORDER_14_56))

-- So do those of a rectangle of 18 rows.
abbrev pub order_in_18_of : ℕ → List ℕ
order_in_18_of columns =
    if nat_eq columns 32 then ORDER_18_32 else (
    if nat_eq columns 40 then ORDER_18_40 else (
    ORDER_18_56))

-- So do those of a rectangle of 20 rows.
abbrev pub order_in_20_of : ℕ → List ℕ
order_in_20_of columns = ORDER_20_44

-- So do those of a rectangle of 22 rows.
abbrev pub order_in_22_of : ℕ → List ℕ
order_in_22_of columns =
    if nat_eq columns 44 then ORDER_22_44 else (
    ORDER_22_56)

-- So do those of a rectangle of 24 rows.
abbrev pub order_in_24_of : ℕ → List ℕ
order_in_24_of columns =
    if nat_eq columns 36 then ORDER_24_36 else (
    if nat_eq columns 44 then ORDER_24_44 else (
    ORDER_24_56))

-- So do those of any rectangle.
abbrev pub rectangle_order_of : ℕ → ℕ → List ℕ
rectangle_order_of rows columns =
    if nat_eq rows 6 then order_in_6_of columns else (
    if nat_eq rows 10 then order_in_10_of columns else (
    if nat_eq rows 14 then order_in_14_of columns else (
    if nat_eq rows 18 then order_in_18_of columns else (
    if nat_eq rows 20 then order_in_20_of columns else (
    if nat_eq rows 22 then order_in_22_of columns else (
    order_in_24_of columns))))))

-- So do those of any matrix.
abbrev pub whole_order_of : ℕ → ℕ → List ℕ
whole_order_of rows columns = if nat_eq rows columns then square_order_of rows else rectangle_order_of rows columns

-- These squares share a table with others, that of the largest of them.
abbrev pub is_shared : ℕ → ℕ → Bool
is_shared rows columns = nat_eq rows columns && (nat_lt 24 rows && (nat_le rows 120 && nat_eq (rows % 8) 0))

-- The slots of a matrix come in this order: the first ones,
abbrev pub first_order_of : ℕ → ℕ → List ℕ
first_order_of rows columns =
    if is_shared rows columns then (
    if nat_le rows 56 then take (rows * rows / 16) ORDER_56_56 else take (rows * rows / 16) ORDER_120_120)
    else whole_order_of rows columns

-- and behind them these,
abbrev pub rest_order_of : ℕ → ℕ → List ℕ
rest_order_of rows columns =
    if is_shared rows columns then (
    if nat_le rows 56 then drop (392 - rows * rows / 16) ORDER_56_56
    else drop (1800 - rows * rows / 16) ORDER_120_120)
    else []

-- each less this.
abbrev pub less_of : ℕ → ℕ → ℕ
less_of rows columns =
    if is_shared rows columns then (if nat_le rows 56 then (56 - rows) / 8 * 65 else (120 - rows) / 8 * 129) else 0

-- The slots of a matrix in the order of its codewords.
abbrev pub order_of : ℕ → ℕ → List ℕ
order_of rows columns =
    first_order_of rows columns ++ map (λ x. x - less_of rows columns) (rest_order_of rows columns)
