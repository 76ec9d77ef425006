-- That the codewords of widened rows, read slot by slot, are those of the symbol.
use Rattle.dm_layout.proofs.Names.{nat_tests, ◌≡◌, ℕ, ◌+◌, ◌-◌, ◌*◌, ◌/◌, ◌%◌, ◌^◌, ◌<◌, ◌≤◌, Bool, true, false, ◌&&◌}
use Rattle.dm_layout.proofs.Names.{nat_eq, nat_lt, List, [], ◌∷◌, map, get_or, refl, sym, ◌∙◌, ap, arith, list_all}
use Rattle.dm_layout.proofs.Names.{div-eq_of_lt, mod-eq_of_lt, and_parts, ltb-true, ltb-false, eqb-true, lt-leb, Cell}
use Rattle.dm_layout.proofs.Names.{Shape, Standard, Corner1, Corner2, Corner3, Corner4, At, cells_of, wrapped_cell}
use Rattle.dm_layout.proofs.Names.{CellsInside, digit, digit-has, inside_test, cells_inside, is_dark_bit, look_in}
use Rattle.dm_layout.proofs.Names.{bits_in, reversed_bits, first_column, slot_of, slot_byte, IsJoined, HasSlots, round}
use Rattle.dm_layout.proofs.Names.{IsWidened, nat_le}
use Rattle.std.proofs.Math.Nat.{add-mul-div_left, add-mul-mod_self_left}
use Rattle.dm_place.specs.Holding.{number_of, word_at}
use Rattle.dm_place.proofs.Exported.{sum_of_digits}
use Rattle.dm_layout.proofs.symbols.SlotRows.{corner_slot_is}

-- ---- rows of slots

-- A slot lies in its row, at its place.
pub slot_row : (bytes r k : ℕ) → k < bytes → (bytes * r + k) / bytes ≡ r
slot_row bytes r k l = grind (arith, nat_tests, add-mul-div_left, div-eq_of_lt)

pub slot_place : (bytes r k : ℕ) → k < bytes → (bytes * r + k) % bytes ≡ k
slot_place bytes r k l = grind (arith, nat_tests, add-mul-mod_self_left, mod-eq_of_lt)

-- ---- which shapes there are

-- The anchor of a standard shape lies in the matrix, in a column of its row's anchors; a corner belongs to its rows and
-- columns.
abbrev pub kind_test : ℕ → ℕ → Shape → Bool
kind_test R C (Standard r c) = (nat_lt r R && nat_lt c C) && nat_eq ((5 * r + c) % 8) 4
kind_test R C Corner1 = nat_eq (R % 8) 4 && nat_eq (C % 8) 4
kind_test R C Corner2 = nat_eq (R % 8) 6 && nat_eq (C % 8) 6
kind_test R C Corner3 = nat_eq (R % 8) 6 && nat_eq (C % 8) 4
kind_test R C Corner4 = nat_eq (R % 8) 6 && nat_eq (C % 8) 0

-- A shape fits if it is of a kind that the matrix has, and its cells lie in the matrix.
abbrev pub fits_test : ℕ → ℕ → Shape → Bool
fits_test R C s = kind_test R C s && inside_test R C (cells_of R C s)

-- ---- a cell of a standard shape in widened rows

-- The cell where a cell of a shape wraps round the upper and the left edge, by the three tests of its wrapping.
abbrev pub cell_by : ℕ → ℕ → ℕ → ℕ → ℕ → ℕ → Bool → Bool → Bool → Cell
cell_by R C r c up left t u v =
    elim t [
      | true ↦ elim u [
        | true ↦ At (r + R + 4 - (up + (C + 4) % 8)) (c + 4 + C - (left + (R + 4) % 8))
        | false ↦ At (r + R - up) (c + 4 - (left + (R + 4) % 8))
      ]
      | false ↦ elim v [ true ↦ At (r + 4 - (up + (C + 4) % 8)) (c + C - left) | false ↦ At (r - up) (c - left) ]
    ]

-- A cell below the matrix is wrapped round the bottom edge.
abbrev pub lowered_cell : ℕ → Cell → Cell
lowered_cell R x = elim (nat_le R x.row) [ true ↦ At (x.row - R) x.column | false ↦ x ]

-- It lies in the row that begins anew.
pub lowered_row : (R : ℕ) (x : Cell) → (lowered_cell R x).row ≡ round R x.row
lowered_row R x = grind (arith, nat_tests)

-- It keeps its column.
pub lowered_column : (R : ℕ) (x : Cell) → (lowered_cell R x).column ≡ x.column
lowered_column R x = grind (arith, nat_tests)

-- What is seen there is seen in that row and column.
lowered_at : (look : ℕ → ℕ → Bool) (R : ℕ) (x : Cell) →
    look (lowered_cell R x).row (lowered_cell R x).column ≡ look (round R x.row) x.column
lowered_at look R x =
    ap (λ (i : ℕ). look i (lowered_cell R x).column) (lowered_row R x) ∙ ap (look (round R x.row)) (lowered_column R x)

-- A row of the matrix stays what it is.
round_same : (R x : ℕ) → x < R → round R x ≡ x
round_same R x l = ap (λ (t : Bool). elim t [ true ↦ x - R | false ↦ x ]) (lt-leb R x l)

module _ (R C : ℕ) (look : ℕ → ℕ → Bool) (rows : List ℕ) (some : 6 ≤ R) (least : 6 ≤ C)
    (even_rows : R % 2 ≡ 0) (even_columns : C % 2 ≡ 0) (wide : IsWidened R C look rows) where
  -- Places whose rows and columns agree look the same.
  same_look : (f : ℕ → ℕ → Bool) (a b x y : ℕ) → a ≡ x → b ≡ y → f a b ≡ f x y
  same_look f a b x y p q = ap (λ (i : ℕ). f i b) p ∙ ap (f x) q

  by_tests : (r c up left : ℕ) (t u v : Bool) → r < R → c < C → (5 * r + c) % 8 ≡ 4 → up ≤ 2 → left ≤ 2 →
      nat_lt r up ≡ t → nat_lt (c + 4) (left + (R + 4) % 8) ≡ u → nat_lt c left ≡ v →
      (cell_by R C r c up left t u v).column < C →
      look_in rows (r + 2 - up) (c + 4 - left) ≡
      look (round R (cell_by R C r c up left t u v).row) (cell_by R C r c up left t u v).column
  by_tests r c up left y u v lr lc anchor lu ll e f g ic =
      grind (arith, nat_tests, ltb-false, same_look, rows, round_same, ltb-true, even_columns, even_rows, least)

  -- A cell of a standard shape in widened rows has the colour of the cell where it wraps.
  wide_at : (r c up left : ℕ) → r < R → c < C → (5 * r + c) % 8 ≡ 4 → up ≤ 2 → left ≤ 2 →
      (wrapped_cell R C r c up left).column < C →
      look_in rows (r + 2 - up) (c + 4 - left) ≡
      look (wrapped_cell R C r c up left).row (wrapped_cell R C r c up left).column
  wide_at r c up left lr lc anchor lu ll ic = grind (arith, nat_tests, by_tests, lowered_column, lowered_at)

  -- ---- a codeword

  -- A digit of a byte is 1 or 0 as its cell is dark or light.
  digit_of : (y t : ℕ) (b : Bool) → is_dark_bit y t ≡ b → y / 2 ^ t % 2 ≡ digit b
  digit_of y t b e = sym (digit-has y (2 ^ t)) ∙ ap digit e

  -- A byte with its bits in the opposite order is the number of its eight digits, the lowest first.
  eight_reversed : (y : ℕ) (b1 b2 b3 b4 b5 b6 b7 b8 : Bool) → is_dark_bit y 0 ≡ b1 → is_dark_bit y 1 ≡ b2 →
      is_dark_bit y 2 ≡ b3 → is_dark_bit y 3 ≡ b4 → is_dark_bit y 4 ≡ b5 → is_dark_bit y 5 ≡ b6 → is_dark_bit y 6 ≡ b7 →
      is_dark_bit y 7 ≡ b8 →
      reversed_bits y ≡ number_of 0 (b1 ∷ b2 ∷ b3 ∷ b4 ∷ b5 ∷ b6 ∷ b7 ∷ b8 ∷ [])
  eight_reversed y b1 b2 b3 b4 b5 b6 b7 b8 e1 e2 e3 e4 e5 e6 e7 e8 =
      summed (y % 2) (y / 2 % 2) (y / 4 % 2) (y / 8 % 2) (y / 16 % 2) (y / 32 % 2) (y / 64 % 2) (y / 128 % 2) _ _ _ _ _
      _ _ _
      (let z : y / 1 ≡ y = omega arith in ap (λ (i : ℕ). i % 2) (sym z) ∙ digit_of y 0 b1 e1) (digit_of y 1 b2 e2)
      (digit_of y 2 b3 e3) (digit_of y 3 b4 e4) (digit_of y 4 b5 e5) (digit_of y 5 b6 e6) (digit_of y 6 b7 e7)
      (digit_of y 7 b8 e8)
      ∙ sym (sum_of_digits b1 b2 b3 b4 b5 b6 b7 b8)
    where
      summed : (x1 x2 x3 x4 x5 x6 x7 x8 d1 d2 d3 d4 d5 d6 d7 d8 : ℕ) → x1 ≡ d1 → x2 ≡ d2 → x3 ≡ d3 → x4 ≡ d4 → x5 ≡ d5 →
          x6 ≡ d6 → x7 ≡ d7 → x8 ≡ d8 →
          128 * x1 + 64 * x2 + 32 * x3 + 16 * x4 + 8 * x5 + 4 * x6 + 2 * x7 + x8 ≡
          128 * d1 + 64 * d2 + 32 * d3 + 16 * d4 + 8 * d5 + 4 * d6 + 2 * d7 + d8
      summed x1 x2 x3 x4 x5 x6 x7 x8 d1 d2 d3 d4 d5 d6 d7 d8 p1 p2 p3 p4 p5 p6 p7 p8 = omega arith

  -- The byte of an anchor, with its bits in the opposite order, is the codeword of the anchor's standard shape.
  standard_word : (r c x : ℕ) → r < R → c < C → (5 * r + c) % 8 ≡ 4 → CellsInside R C (cells_of R C (Standard r c)) →
      IsJoined C rows r x →
      reversed_bits (x / 2 ^ (8 * (c / 8)) % 256) ≡ word_at look (cells_of R C (Standard r c))
  standard_word r c x lr lc anchor inside slots =
      let k : ℕ = c / 8 in
      let lk : 8 * k < C = omega (arith, lc) in
      let base : first_column r + 8 * k ≡ c + 2 = omega (arith, anchor) in
      eight_reversed (x / 2 ^ (8 * k) % 256) _ _ _ _ _ _ _ _
      (slots.first k 0 lk (omega arith) ∙ same_look (look_in rows) _ _ (r + 2 - 2) (c + 4 - 2) (omega arith)
      (omega (arith, base)) ∙ wide_at r c 2 2 lr lc anchor (omega arith) (omega arith) inside.1)
      (slots.first k 1 lk (omega arith) ∙ same_look (look_in rows) _ _ (r + 2 - 2) (c + 4 - 1) (omega arith)
      (omega (arith, base)) ∙ wide_at r c 2 1 lr lc anchor (omega arith) (omega arith) inside.2.1)
      (slots.second k 0 lk (omega arith) ∙ same_look (look_in rows) _ _ (r + 2 - 1) (c + 4 - 2) (omega arith)
      (omega (arith, base)) ∙ wide_at r c 1 2 lr lc anchor (omega arith) (omega arith) inside.2.2.1)
      (slots.second k 1 lk (omega arith) ∙ same_look (look_in rows) _ _ (r + 2 - 1) (c + 4 - 1) (omega arith)
      (omega (arith, base)) ∙ wide_at r c 1 1 lr lc anchor (omega arith) (omega arith) inside.2.2.2.1)
      (slots.second k 2 lk (omega arith) ∙ same_look (look_in rows) _ _ (r + 2 - 1) (c + 4 - 0) (omega arith)
      (omega (arith, base)) ∙ wide_at r c 1 0 lr lc anchor (omega arith) (omega arith) inside.2.2.2.2.1)
      (slots.third k 0 lk (omega arith) ∙ same_look (look_in rows) _ _ (r + 2 - 0) (c + 4 - 2) (omega arith)
      (omega (arith, base)) ∙ wide_at r c 0 2 lr lc anchor (omega arith) (omega arith) inside.2.2.2.2.2.1)
      (slots.third k 1 lk (omega arith) ∙ same_look (look_in rows) _ _ (r + 2 - 0) (c + 4 - 1) (omega arith)
      (omega (arith, base)) ∙ wide_at r c 0 1 lr lc anchor (omega arith) (omega arith) inside.2.2.2.2.2.2.1)
      (slots.third k 2 lk (omega arith) ∙ same_look (look_in rows) _ _ (r + 2 - 0) (c + 4 - 0) (omega arith)
      (omega (arith, base)) ∙ wide_at r c 0 0 lr lc anchor (omega arith) (omega arith) inside.2.2.2.2.2.2.2.1)

  -- Cells that don't wrap have, in widened rows, the bits that they have in the matrix.
  plain_bits : (a : ℕ) (xs : List Cell) → CellsInside R C xs →
      bits_in rows a xs ≡ number_of a (map (λ x. look x.row x.column) xs)
  plain_bits a [] h = refl
  plain_bits a (x ∷ xs) h =
      ap (λ (d : ℕ). bits_in rows (2 * a + d) xs) (sym (digit-has (get_or rows (x.row + 2) 0) (2 ^ (x.column + 4)))
      ∙ ap digit (wide.inside x.row x.column h.0 h.1))
      ∙ plain_bits (2 * a + digit (look x.row x.column)) xs h.2

  module _ (bytes most : ℕ) (room : C ≤ 8 * bytes) (news : List ℕ) (slots : HasSlots most R C rows news) where
    -- The byte of an anchor stands in the row of that anchor.
    in_row : (r k : ℕ) → k < bytes → slot_byte bytes news (bytes * r + k) ≡ get_or news r 0 / 2 ^ (8 * k) % 256
    in_row r k lk =
        rw (slot_row, slot_place)

    -- The lowest byte of the row behind all others is that of the slot of a corner.
    corner_row : slot_byte bytes news (bytes * most) ≡ get_or news most 0 % 256
    corner_row = corner_slot_is bytes most news (omega (arith, room, least))

    -- The codeword of a shape stands in its slot.
    shape_word : (s : Shape) → fits_test R C s ≡ true →
        reversed_bits (slot_byte bytes news (slot_of bytes most s)) ≡ word_at look (cells_of R C s)
    shape_word (Standard r c) fits =
        let both = and_parts (kind_test R C (Standard r c)) (inside_test R C (cells_of R C (Standard r c))) fits in
        let kind = and_parts (nat_lt r R && nat_lt c C) (nat_eq ((5 * r + c) % 8) 4) both.0 in
        let here = and_parts (nat_lt r R) (nat_lt c C) kind.0 in
        let lr = ltb-true r R here.0 in
        let lc = ltb-true c C here.1 in
        ap reversed_bits (in_row r (c / 8) (omega (arith, lc, room)))
        ∙ standard_word r c (get_or news r 0) lr lc (eqb-true ((5 * r + c) % 8) 4 kind.1)
        (cells_inside R C (cells_of R C (Standard r c)) both.1) (slots.anchors r lr)
    shape_word Corner1 fits =
        let both = and_parts (kind_test R C Corner1) (inside_test R C (cells_of R C Corner1)) fits in
        let kind = and_parts (nat_eq (R % 8) 4) (nat_eq (C % 8) 4) both.0 in
        ap reversed_bits corner_row ∙ slots.corner1 (eqb-true (R % 8) 4 kind.0) (eqb-true (C % 8) 4 kind.1)
        ∙ plain_bits 0 (cells_of R C Corner1) (cells_inside R C (cells_of R C Corner1) both.1)
    shape_word Corner2 fits =
        let both = and_parts (kind_test R C Corner2) (inside_test R C (cells_of R C Corner2)) fits in
        let kind = and_parts (nat_eq (R % 8) 6) (nat_eq (C % 8) 6) both.0 in
        ap reversed_bits corner_row ∙ slots.corner2 (eqb-true (R % 8) 6 kind.0) (eqb-true (C % 8) 6 kind.1)
        ∙ plain_bits 0 (cells_of R C Corner2) (cells_inside R C (cells_of R C Corner2) both.1)
    shape_word Corner3 fits =
        let both = and_parts (kind_test R C Corner3) (inside_test R C (cells_of R C Corner3)) fits in
        let kind = and_parts (nat_eq (R % 8) 6) (nat_eq (C % 8) 4) both.0 in
        ap reversed_bits corner_row ∙ slots.corner3 (eqb-true (R % 8) 6 kind.0) (eqb-true (C % 8) 4 kind.1)
        ∙ plain_bits 0 (cells_of R C Corner3) (cells_inside R C (cells_of R C Corner3) both.1)
    shape_word Corner4 fits =
        let both = and_parts (kind_test R C Corner4) (inside_test R C (cells_of R C Corner4)) fits in
        let kind = and_parts (nat_eq (R % 8) 6) (nat_eq (C % 8) 0) both.0 in
        ap reversed_bits corner_row ∙ slots.corner4 (eqb-true (R % 8) 6 kind.0) (eqb-true (C % 8) 0 kind.1)
        ∙ plain_bits 0 (cells_of R C Corner4) (cells_inside R C (cells_of R C Corner4) both.1)

    -- The codewords of all shapes stand in their slots.
    pub slot_words : (ss : List Shape) → list_all (fits_test R C) ss ≡ true →
        map (λ x. reversed_bits (slot_byte bytes news x)) (map (slot_of bytes most) ss) ≡
        map (λ sh. word_at look (cells_of R C sh)) ss
    slot_words [] fits = refl
    slot_words (s ∷ ss) fits =
        let both = and_parts (fits_test R C s) (list_all (fits_test R C) ss) fits in
        rw (shape_word s both.0, slot_words ss both.1)
