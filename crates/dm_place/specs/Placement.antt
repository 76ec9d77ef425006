-- Where the codewords lie in a mapping matrix of so many rows and columns: ISO/IEC 16022, module placement. The
-- standard gives it as a sweep over the matrix; here it is a closed form of our own, and that both are the same for
-- every size is a law.
use Rattle.std.specs.Prelude.{◌≡◌, ℕ, suc, ◌+◌, ◌-◌, ◌*◌, ◌%◌, ◌<◌, ◌≤◌, Bool, true, false, not, ◌&&◌, ◌||◌, nat_eq}
use Rattle.std.specs.Prelude.{nat_lt, nat_le, List, [], ◌∷◌, ◌++◌, get_or, length, flat_map, slice_get, Some}
use Rattle.std.specs.Bool.{MatchBool}
use Rattle.std.specs.List.{range_with_len}
use Rattle.dm_place.specs.Border.{is_fixed}
use Rattle.dm_place.specs.declared.shape.Cell.{Cell}
use Rattle.dm_place.specs.declared.shape.Shape.{Shape}
use Rattle.dm_place.specs.declared.shape.Shape.TheVariants.{Standard, Corner1, Corner2, Corner3, Corner4}
use Rattle.dm_place.specs.declared.cells.Place.{Place}

-- A cell of the mapping matrix is given by its row and its column, both counted from 0 at the top left.
abbrev pub At : ℕ → ℕ → Cell
At row column = record { row = row; column = column }

-- ---- the eight cells of a shape, for the bits 1 (the highest) to 8 of its codeword

-- The cell `up` rows above and `left` columns left of row r, column c is wrapped round the top edge and then round the
-- left one. Above the matrix it gains the matrix's rows, and 4 - ((rows + 4) mod 8) columns. Then, left of the matrix,
-- it gains the matrix's columns, and 4 - ((columns + 4) mod 8) rows. At an anchor of a matrix of the table no
-- difference here is below 0.
abbrev pub wrapped_at_top_and_left : ℕ → ℕ → ℕ → ℕ → ℕ → ℕ → Cell
wrapped_at_top_and_left rows columns r c up left =
    elim (nat_lt r up) [
      | true ↦ elim (nat_lt (c + 4) (left + (rows + 4) % 8)) [
        | true ↦ At (r + rows + 4 - (up + (columns + 4) % 8)) (c + 4 + columns - (left + (rows + 4) % 8))
        | false ↦ At (r + rows - up) (c + 4 - (left + (rows + 4) % 8))
      ]
      | false ↦ elim (nat_lt c left) [
        | true ↦ At (r + 4 - (up + (columns + 4) % 8)) (c + columns - left)
        | false ↦ At (r - up) (c - left)
      ]
    ]

-- The cell `up` rows above and `left` columns left of row r, column c is wrapped round the top edge, the left one and
-- the bottom one, in this order: below the matrix it loses the matrix's rows. Round the bottom edge cells come in
-- matrices of 24 by 36 and 24 by 44 cells alone.
abbrev pub wrapped_cell : ℕ → ℕ → ℕ → ℕ → ℕ → ℕ → Cell
wrapped_cell rows columns r c up left =
    let cell = wrapped_at_top_and_left rows columns r c up left in
    elim (nat_le rows cell.row) [ true ↦ At (cell.row - rows) cell.column | false ↦ cell ]

-- A codeword lies in the eight cells of its shape. The standard one at row r, column c has its anchor, the lower right
-- cell, there, and each of its cells is given by how far it lies above and left of the anchor. Four others lie on
-- corners of the matrix.
abbrev pub cells_of : ℕ → ℕ → Shape → List Cell
cells_of rows columns (Standard r c) =
    let cell = wrapped_cell rows columns r c in
    cell 2 2 ∷ cell 2 1 ∷ cell 1 2 ∷ cell 1 1 ∷ cell 1 0 ∷ cell 0 2 ∷ cell 0 1 ∷ cell 0 0 ∷ []
cells_of rows columns Corner1 =
    At (rows - 1) 0 ∷ At (rows - 1) 1 ∷ At (rows - 1) 2 ∷ At 0 (columns - 2) ∷ At 0 (columns - 1) ∷ At 1 (columns - 1) ∷
    At 2 (columns - 1) ∷ At 3 (columns - 1) ∷ []
cells_of rows columns Corner2 =
    At (rows - 3) 0 ∷ At (rows - 2) 0 ∷ At (rows - 1) 0 ∷ At 0 (columns - 4) ∷ At 0 (columns - 3) ∷ At 0 (columns - 2) ∷
    At 0 (columns - 1) ∷ At 1 (columns - 1) ∷ []
cells_of rows columns Corner3 =
    At (rows - 3) 0 ∷ At (rows - 2) 0 ∷ At (rows - 1) 0 ∷ At 0 (columns - 2) ∷ At 0 (columns - 1) ∷ At 1 (columns - 1) ∷
    At 2 (columns - 1) ∷ At 3 (columns - 1) ∷ []
cells_of rows columns Corner4 =
    At (rows - 1) 0 ∷ At (rows - 1) (columns - 1) ∷ At 0 (columns - 3) ∷ At 0 (columns - 2) ∷ At 0 (columns - 1) ∷
    At 1 (columns - 3) ∷ At 1 (columns - 2) ∷ At 1 (columns - 1) ∷ []

-- The anchor of a standard shape lies in the matrix; a corner always does.
abbrev pub AnchorInside : ℕ → ℕ → Shape → Type 0
AnchorInside rows columns (Standard r c) = (r < rows) × (c < columns)
AnchorInside rows columns Corner1 = Unit {0}
AnchorInside rows columns Corner2 = Unit {0}
AnchorInside rows columns Corner3 = Unit {0}
AnchorInside rows columns Corner4 = Unit {0}

-- All of these cells lie in the matrix.
abbrev pub CellsInside : ℕ → ℕ → List Cell → Type 0
CellsInside rows columns [] = Unit {0}
CellsInside rows columns (x ∷ rest) = (x.row < rows) × (x.column < columns) × CellsInside rows columns rest

-- The anchors and the cells of these shapes lie in the matrix.
abbrev pub ShapesInside : ℕ → ℕ → List Shape → Type 0
ShapesInside rows columns [] = Unit {0}
ShapesInside rows columns (s ∷ rest) =
    AnchorInside rows columns s × CellsInside rows columns (cells_of rows columns s) × ShapesInside rows columns rest

-- ---- the shapes, in the order of the codewords

-- A cell is absent, that is, no anchor although 5r + c leaves 4 when divided by 8, in a matrix whose rows leave 6:
-- (rows - 2, 0) where its columns leave 6 or 4, (0, columns - 2) where they leave 6, and (1, columns - 1) where they
-- leave 0.
abbrev pub is_absent : ℕ → ℕ → ℕ → ℕ → Bool
is_absent rows columns r c =
    (nat_eq (rows % 8) 6 && nat_eq r (rows - 2) && nat_eq c 0 && (nat_eq (columns % 8) 6 || nat_eq (columns % 8) 4))
    || ((nat_eq (rows % 8) 6 && nat_eq (columns % 8) 6 && nat_eq r 0 && nat_eq c (columns - 2))
    || (nat_eq (rows % 8) 6 && nat_eq (columns % 8) 0 && nat_eq r 1 && nat_eq c (columns - 1)))

-- A cell of the matrix is the anchor of a standard shape if 5r + c leaves 4 when divided by 8 and the cell isn't
-- absent.
abbrev pub is_anchor : ℕ → ℕ → ℕ → ℕ → Bool
is_anchor rows columns r c =
    nat_lt r rows && nat_lt c columns && nat_eq ((5 * r + c) % 8) 4 && not (is_absent rows columns r c)

-- This is the standard shape of sum s = r + c whose anchor lies in column c and in an even row, if there is one.
abbrev pub in_even_row : ℕ → ℕ → ℕ → ℕ → List Shape
in_even_row rows columns s c =
    elim (nat_le c s && nat_eq ((s - c) % 2) 0) [
      | true ↦ elim (is_anchor rows columns (s - c) c) [ true ↦ Standard (s - c) c ∷ [] | false ↦ [] ]
      | false ↦ []
    ]

-- This is the standard shape of sum s = r + c whose anchor lies in row r, if that row is odd and there is one.
abbrev pub in_odd_row : ℕ → ℕ → ℕ → ℕ → List Shape
in_odd_row rows columns s r =
    elim (nat_le r s && nat_eq (r % 2) 1) [
      | true ↦ elim (is_anchor rows columns r (s - r)) [ true ↦ Standard r (s - r) ∷ [] | false ↦ [] ]
      | false ↦ []
    ]

-- A corner comes just before the anchors of sum s by what rows and columns leave when divided by 8: corner 1 at 4 and 4
-- where s is the number of rows, corner 2 at 6 and 6 and corner 3 at 6 and 4 where s is rows - 2, corner 4 at 6 and 0
-- where s is rows + 6, and else none.
abbrev pub corner_before : ℕ → ℕ → ℕ → List Shape
corner_before rows columns s =
    elim (nat_eq (rows % 8) 4 && nat_eq (columns % 8) 4 && nat_eq s rows) [
      | true ↦ Corner1 ∷ []
      | false ↦ elim (nat_eq (rows % 8) 6 && nat_eq (columns % 8) 6 && nat_eq s (rows - 2)) [
        | true ↦ Corner2 ∷ []
        | false ↦ elim (nat_eq (rows % 8) 6 && nat_eq (columns % 8) 4 && nat_eq s (rows - 2)) [
          | true ↦ Corner3 ∷ []
          | false ↦ elim (nat_eq (rows % 8) 6 && nat_eq (columns % 8) 0 && nat_eq s (rows + 6)) [
            | true ↦ Corner4 ∷ []
            | false ↦ []
          ]
        ]
      ]
    ]

-- The shapes of sum s are the corner that comes before its anchors, if any, then those with anchors in even rows by
-- rising column, and then those with anchors in odd rows by rising row.
abbrev pub shapes_of_sum : ℕ → ℕ → ℕ → List Shape
shapes_of_sum rows columns s =
    corner_before rows columns s ++ flat_map (in_even_row rows columns s) (range_with_len 0 columns)
    ++ flat_map (in_odd_row rows columns s) (range_with_len 0 rows)

-- The shapes of a mapping matrix are ordered by rising sum of row and column; each takes the next codeword.
unfoldable pub shapes : ℕ → ℕ → List Shape
shapes rows columns = flat_map (shapes_of_sum rows columns) (range_with_len 0 (rows + columns - 1))

-- ---- places

-- The place of a bit of a codeword is a cell of the mapping matrix. `word` counts codewords from 0 and is below the
-- number of shapes, and bit 1 is the highest and 8 the lowest; outside these ranges a place means nothing.
unfoldable pub place : ℕ → ℕ → ℕ → ℕ → Cell
place rows columns word bit =
    get_or (cells_of rows columns (get_or (shapes rows columns) word Corner1)) (bit - 1) (At 0 0)

-- This bit of this codeword lies in the cell.
pub record IsPlace (rows columns word bit : ℕ) (cell : Cell) : Type 0 where
  pub word_in : word < length (shapes rows columns)
  pub from_one : 1 ≤ bit
  pub to_eight : bit ≤ 8
  pub there : place rows columns word bit ≡ cell

-- No bit of any codeword lies in the cell.
abbrev pub NoPlace : ℕ → ℕ → Cell → Type 0
NoPlace rows columns cell = (word bit : ℕ) → IsPlace rows columns word bit cell → ⊥

-- Exactly one bit of one codeword lies in the cell.
abbrev pub OnePlace : ℕ → ℕ → Cell → Type 0
OnePlace rows columns cell =
    (word : ℕ) × (bit : ℕ) × IsPlace rows columns word bit cell
    × ((other other_bit : ℕ) → IsPlace rows columns other other_bit cell → (other ≡ word) × (other_bit ≡ bit))

-- Each cell of the mapping matrix holds exactly one bit, or belongs to
-- the fixed square and holds none; and each bit lies in the matrix.
pub record EachCellOnce (rows columns : ℕ) : Type 0 where
  pub once : (r c : ℕ) → r < rows → c < columns →
      MatchBool (is_fixed rows columns r c) (NoPlace rows columns (At r c)) (OnePlace rows columns (At r c))
  pub inside : (word bit : ℕ) (cell : Cell) → IsPlace rows columns word bit cell →
      (cell.row < rows) × (cell.column < columns)

-- ---- all places, by word and then by bit

-- These are the places of the bits of a codeword from bit b + 1 on, which lie in these cells.
abbrev pub bits_from : ℕ → ℕ → List Cell → List Place
bits_from word b [] = []
bits_from word b (x ∷ rest) =
    record { word = word; bit = b + 1; row = x.row; column = x.column } ∷ bits_from word (suc b) rest

-- These are the places of all bits of the codewords from number `word` on, which have these shapes.
abbrev pub places_from : ℕ → ℕ → ℕ → List Shape → List Place
places_from rows columns word [] = []
places_from rows columns word (s ∷ rest) =
    bits_from word 0 (cells_of rows columns s) ++ places_from rows columns (suc word) rest

-- The places of all bits are ordered by codeword and then by bit.
unfoldable pub places_in_order : ℕ → ℕ → List Place
places_in_order rows columns = places_from rows columns 0 (shapes rows columns)

-- The list has the places of all bits of all codewords of the mapping matrix, by codeword and then by bit.
pub record IsPlaceList (rows columns : ℕ) (places : List Place) : Type 0 where
  pub count : length places ≡ 8 * length (shapes rows columns)
  pub in_order : (word bit : ℕ) (cell : Cell) → IsPlace rows columns word bit cell →
      slice_get places (8 * word + (bit - 1)) ≡
      Some (record { word = word; bit = bit; row = cell.row; column = cell.column })
