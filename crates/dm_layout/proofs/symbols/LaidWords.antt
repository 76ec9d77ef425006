-- That the codewords in slots, scattered and folded, lie at their places.
use Rattle.dm_layout.proofs.Names.{nat_tests, ◌≡◌, ◌≢◌, ℕ, zero, suc, ◌+◌, ◌*◌, ◌/◌, ◌%◌, ◌^◌, ◌<◌, ◌≤◌, Bool, true}
use Rattle.dm_layout.proofs.Names.{false, ◌&&◌, ◌||◌, nat_eq, nat_lt, List, [], ◌∷◌, map, length, get_or, set, drop}
use Rattle.dm_layout.proofs.Names.{replicate, refl, sym, ◌∙◌, ap, arith, get_or-set_same, get_or-set_other, drop-cons}
use Rattle.dm_layout.proofs.Names.{bit_or, list_all, or_assoc, or-false, and-false, mul-div_cancel_left, mul-mod_right}
use Rattle.dm_layout.proofs.Names.{and_parts, ltb-true, eqb-true, get_or-map, Place, Cell, Shape, Standard, Corner1}
use Rattle.dm_layout.proofs.Names.{Corner2, Corner3, Corner4, cells_of, shapes, CellsInside, is_dark_bit}
use Rattle.dm_layout.proofs.Names.{by_anchors, scattered, folded, corner_marks, with_byte, marks_in, reversed_bits}
use Rattle.dm_layout.proofs.Names.{slot_of, inside_test, cells_inside}
use Rattle.std.proofs.Common.{drop_of_length-le}
use Rattle.dm_place.specs.Placement.{places_from, places_in_order}
use Rattle.dm_layout.proofs.symbols.FoldedRows.{folded_or, folded_same, folded_none}
use Rattle.dm_place.proofs.Exported.{eight}
use Rattle.dm_layout.proofs.symbols.MarkedCells.{marks_low, marks_reversed, marks_turned, marks_or}
use Rattle.dm_layout.proofs.symbols.LaidSlots.{byte_fits, wide_cells}
use Rattle.dm_layout.proofs.symbols.LaidSlots.{scattered_shape, scattered_corner, folded_marks, wide_folded}
use Rattle.dm_layout.proofs.symbols.LiftedWords.{kind_test, fits_test, slot_row, slot_place}
use Rattle.dm_layout.proofs.symbols.Painting.{marks, marks_word}
use Rattle.dm_layout.proofs.symbols.Rows.{light_at}

-- The cells of the first corner whose test passes.
abbrev pub corner_by : ℕ → ℕ → Bool → Bool → Bool → Bool → List Cell
corner_by R C first second third fourth =
    elim first [
      | true ↦ cells_of R C Corner1
      | false ↦ elim second [
        | true ↦ cells_of R C Corner2
        | false ↦ elim third [
          | true ↦ cells_of R C Corner3
          | false ↦ elim fourth [ true ↦ cells_of R C Corner4 | false ↦ [] ]
        ]
      ]
    ]

-- The cells of the corner that belongs to a mapping matrix of so many rows and columns, if one does.
abbrev pub corner_cells : ℕ → ℕ → List Cell
corner_cells R C =
    corner_by R C (nat_eq (R % 8) 4 && nat_eq (C % 8) 4) (nat_eq (R % 8) 6 && nat_eq (C % 8) 6)
    (nat_eq (R % 8) 6 && nat_eq (C % 8) 4) (nat_eq (R % 8) 6 && nat_eq (C % 8) 0)

-- The matrix with all that is in the slots.
abbrev pub laid_slots : ℕ → ℕ → ℕ → List ℕ → ℕ → ℕ → Bool
laid_slots most R C slots r c =
    folded R C (scattered R slots) r c || marks_low (get_or slots most 0) 0 (corner_cells R C) r c

-- It doesn't matter on which side something is added.
add_left : (a b x : Bool) → ((a || x) || b) ≡ ((a || b) || x)
add_left x b y = grind (arith, nat_tests)

-- What two tests say of what rows and columns leave when divided by 8.
tests_of : (R C x y : ℕ) → (nat_eq (R % 8) x && nat_eq (C % 8) y) ≡ true → (R % 8 ≡ x) × (C % 8 ≡ y)
tests_of R C x y h =
    let both = and_parts (nat_eq (R % 8) x) (nat_eq (C % 8) y) h in
    (eqb-true (R % 8) x both.0, eqb-true (C % 8) y both.1)

-- The cells of a corner, by what rows and columns leave.
abbrev corner_at : ℕ → ℕ → ℕ → ℕ → List Cell
corner_at R C i j =
    corner_by R C (nat_eq i 4 && nat_eq j 4) (nat_eq i 6 && nat_eq j 6) (nat_eq i 6 && nat_eq j 4)
    (nat_eq i 6 && nat_eq j 0)

pub corner_first : (R C : ℕ) → (R % 8 ≡ 4) × (C % 8 ≡ 4) → corner_cells R C ≡ cells_of R C Corner1
corner_first R C h = ap (λ (i : ℕ). corner_at R C i (C % 8)) h.0 ∙ ap (corner_at R C 4) h.1

pub corner_second : (R C : ℕ) → (R % 8 ≡ 6) × (C % 8 ≡ 6) → corner_cells R C ≡ cells_of R C Corner2
corner_second R C h = ap (λ (i : ℕ). corner_at R C i (C % 8)) h.0 ∙ ap (corner_at R C 6) h.1

pub corner_third : (R C : ℕ) → (R % 8 ≡ 6) × (C % 8 ≡ 4) → corner_cells R C ≡ cells_of R C Corner3
corner_third R C h = ap (λ (i : ℕ). corner_at R C i (C % 8)) h.0 ∙ ap (corner_at R C 6) h.1

pub corner_fourth : (R C : ℕ) → (R % 8 ≡ 6) × (C % 8 ≡ 0) → corner_cells R C ≡ cells_of R C Corner4
corner_fourth R C h = ap (λ (i : ℕ). corner_at R C i (C % 8)) h.0 ∙ ap (corner_at R C 6) h.1

module _ (bytes most R C y : ℕ) (slots : List ℕ) (some : 6 ≤ R) (least : 6 ≤ C) (high : R ≤ most)
    (wide : C ≤ 8 * bytes) (even_rows : R % 2 ≡ 0) (even_columns : C % 2 ≡ 0)
    (inside : most < length slots) (small : y < 256) where
  -- A byte that is added to the slot of an anchor is laid over the row of the anchor, at its place.
  anchor_byte : (i j : ℕ) → i < R → j < C → with_byte bytes slots (bytes * i + j / 8) y ≡
      set slots i (bit_or (get_or slots i 0) (y * 2 ^ (8 * (j / 8)) % 2 ^ (8 * bytes)))
  anchor_byte i j li lj = grind (arith, nat_tests, wide, slots, slot_row, slot_place, byte_fits, small)

  -- A byte that is added to the slot of a corner is laid over the last row.
  corner_byte : with_byte bytes slots (bytes * most) y ≡ set slots most (bit_or (get_or slots most 0) y)
  corner_byte =
      let same : y * 1 ≡ y = omega arith in
      ap (λ (k : ℕ). set slots k (bit_or (get_or slots k 0) (y * 2 ^ (8 * (bytes * most % bytes)))))
      (mul-div_cancel_left most (omega (arith, wide, least)))
      ∙ ap (λ (k : ℕ). set slots most (bit_or (get_or slots most 0) (y * 2 ^ (8 * k)))) (mul-mod_right bytes most)
      ∙ ap (λ (x : ℕ). set slots most (bit_or (get_or slots most 0) x)) same

  -- One more byte in the slot of an anchor marks the cells of the anchor's standard shape.
  put_standard : (i j r c : ℕ) → i < R → j < C → (5 * i + j) % 8 ≡ 4 → r < R → c < C →
      CellsInside R C (cells_of R C (Standard i j)) →
      laid_slots most R C (with_byte bytes slots (bytes * i + j / 8) y) r c ≡
      (laid_slots most R C slots r c || marks_low y 0 (cells_of R C (Standard i j)) r c)
  put_standard i j r c li lj anchor lr lc cells =
      let other : most ≢ i = omega (arith, li, high) in
      let all =
      folded_same R C (C + 8) (scattered R news) (λ u v. scattered R slots u v || marks_low y 0 (wide_cells i j) u v)
      r c lc
      (omega arith)
      (λ u v _. scattered_shape R slots i j y (8 * bytes) u v li anchor small (omega (arith, lj, wide))
      (omega (arith, li, high, inside))) in
      ap (λ (xs : List ℕ). laid_slots most R C xs r c) (anchor_byte i j li lj)
      ∙ ap (λ (x : ℕ). folded R C (scattered R news) r c || marks_low x 0 (corner_cells R C) r c)
      (get_or-set_other slots i most (bit_or (get_or slots i 0) (y * 2 ^ (8 * (j / 8)) % 2 ^ (8 * bytes))) 0
      other)
      ∙ ap (λ (b : Bool). b || corner) (all ∙ folded_or R C (scattered R slots) (marks_low y 0 (wide_cells i j)) r c)
      ∙ ap (λ (b : Bool). (folded R C (scattered R slots) r c || b) || corner)
      (folded_marks R C y 0 r c (wide_cells i j) (cells_of R C (Standard i j)) lc
      (wide_folded R C i j r c some least even_rows even_columns li lj anchor lr lc cells))
      ∙ add_left (folded R C (scattered R slots) r c) corner (marks_low y 0 (cells_of R C (Standard i j)) r c)
    where
      news : List ℕ
      news = set slots i (bit_or (get_or slots i 0) (y * 2 ^ (8 * (j / 8)) % 2 ^ (8 * bytes)))

      corner : Bool
      corner = marks_low (get_or slots most 0) 0 (corner_cells R C) r c

  -- One more byte in the slot of the corner marks the cells of the corner.
  put_corner : (xs : List Cell) (r c : ℕ) → c < C → corner_cells R C ≡ xs →
      laid_slots most R C (with_byte bytes slots (bytes * most) y) r c ≡ (laid_slots most R C slots r c || marks_low y
      0 xs r c)
  put_corner xs r c lc e =
      ap (λ (ss : List ℕ). laid_slots most R C ss r c) corner_byte
      ∙ ap (λ (b : Bool). b || marks_low (get_or news most 0) 0 (corner_cells R C) r c)
      (folded_same R C (C + 8) (scattered R news) (scattered R slots) r c lc (omega arith)
      (λ u v _. scattered_corner R slots most y u v high inside))
      ∙ ap (λ (x : ℕ). folded R C (scattered R slots) r c || marks_low x 0 (corner_cells R C) r c)
      (get_or-set_same slots most (bit_or (get_or slots most 0) y) 0 inside)
      ∙ ap (λ (b : Bool). folded R C (scattered R slots) r c || b)
      (marks_or (get_or slots most 0) y 0 (corner_cells R C) r c)
      ∙ sym (or_assoc (folded R C (scattered R slots) r c)
      (marks_low (get_or slots most 0) 0 (corner_cells R C) r c) (marks_low y 0 (corner_cells R C) r c))
      ∙ ap (λ (cs : List Cell). laid_slots most R C slots r c || marks_low y 0 cs r c) e
    where
      news : List ℕ
      news = set slots most (bit_or (get_or slots most 0) y)

  -- One more byte in the slot of a shape that fits marks the cells of the shape.
  put_low : (s : Shape) (r c : ℕ) → fits_test R C s ≡ true → r < R → c < C →
      laid_slots most R C (with_byte bytes slots (slot_of bytes most s) y) r c ≡
      (laid_slots most R C slots r c || marks_low y 0 (cells_of R C s) r c)
  put_low (Standard i j) r c fits lr lc =
      let both = and_parts (kind_test R C (Standard i j)) (inside_test R C (cells_of R C (Standard i j))) fits in
      let kind = and_parts (nat_lt i R && nat_lt j C) (nat_eq ((5 * i + j) % 8) 4) both.0 in
      let here = and_parts (nat_lt i R) (nat_lt j C) kind.0 in
      put_standard i j r c (ltb-true i R here.0) (ltb-true j C here.1) (eqb-true ((5 * i + j) % 8) 4 kind.1) lr lc
      (cells_inside R C (cells_of R C (Standard i j)) both.1)
  put_low Corner1 r c fits lr lc =
      let both = and_parts (kind_test R C Corner1) (inside_test R C (cells_of R C Corner1)) fits in
      put_corner (cells_of R C Corner1) r c lc (corner_first R C (tests_of R C 4 4 both.0))
  put_low Corner2 r c fits lr lc =
      let both = and_parts (kind_test R C Corner2) (inside_test R C (cells_of R C Corner2)) fits in
      put_corner (cells_of R C Corner2) r c lc (corner_second R C (tests_of R C 6 6 both.0))
  put_low Corner3 r c fits lr lc =
      let both = and_parts (kind_test R C Corner3) (inside_test R C (cells_of R C Corner3)) fits in
      put_corner (cells_of R C Corner3) r c lc (corner_third R C (tests_of R C 6 4 both.0))
  put_low Corner4 r c fits lr lc =
      let both = and_parts (kind_test R C Corner4) (inside_test R C (cells_of R C Corner4)) fits in
      put_corner (cells_of R C Corner4) r c lc (corner_fourth R C (tests_of R C 6 0 both.0))

-- A byte with its bits in the opposite order is a byte.
reversed_small : (w : ℕ) → reversed_bits w < 256
reversed_small w = omega arith

-- One more codeword in its slot marks the cells of its shape.
slot_put : (bytes most R C w : ℕ) (slots : List ℕ) (s : Shape) (r c : ℕ) → 6 ≤ R → 6 ≤ C → R ≤ most →
    C ≤ 8 * bytes → R % 2 ≡ 0 → C % 2 ≡ 0 →
    most < length slots → w < 256 → fits_test R C s ≡ true → r < R → c < C →
    laid_slots most R C (with_byte bytes slots (slot_of bytes most s) (reversed_bits w)) r c ≡
    (laid_slots most R C slots r c || marks_in w 0 (cells_of R C s) r c)
slot_put bytes most R C w slots s r c some least high wide even_rows even_columns inside small fits lr lc =
    let k = eight R C s in
    put_low bytes most R C (reversed_bits w) slots some least high wide even_rows even_columns inside
    (reversed_small w) s r c fits lr lc
    ∙ ap (λ (b : Bool). laid_slots most R C slots r c || b) (marks_reversed w (cells_of R C s) r c small (omega arith))

-- ---- all codewords

-- The matrix with what is in the slots, and with the codewords from number i on, is that of all codewords.
abbrev pub AreLaid : ℕ → ℕ → ℕ → List ℕ → List ℕ → ℕ → Type 0
AreLaid most R C words slots i =
    (r c : ℕ) → r < R → c < C → (laid_slots most R C slots r c || marks words (places_from R C i (drop i
    (shapes R C))) r c) ≡
    marks words (places_in_order R C) r c

-- Each shape of a list in which all fit fits.
fits_here : (R C i : ℕ) (ss : List Shape) → list_all (fits_test R C) ss ≡ true → i < length ss →
    fits_test R C (get_or ss i Corner1) ≡ true
fits_here R C i [] h l = absurd (omega arith)
fits_here R C zero (s ∷ ss) h l = (and_parts (fits_test R C s) (list_all (fits_test R C) ss) h).0
fits_here R C (suc i) (s ∷ ss) h l =
    fits_here R C i ss (and_parts (fits_test R C s) (list_all (fits_test R C) ss) h).1 (omega arith)

-- When the next codeword is put into its slot, the matrix is still that of all codewords.
pub laid_more : (bytes most R C i x y : ℕ) (words slots : List ℕ) → 6 ≤ R → 6 ≤ C → R ≤ most → C ≤ 8 * bytes →
    R % 2 ≡ 0 → C % 2 ≡ 0 →
    most < length slots → get_or words i 0 < 256 → list_all (fits_test R C) (shapes R C) ≡ true →
    i < length (shapes R C) →
    x ≡ get_or (map (slot_of bytes most) (shapes R C)) i 0 → y ≡ reversed_bits (get_or words i 0) →
    AreLaid most R C words slots i →
    AreLaid most R C words (with_byte bytes slots x y) (i + 1)
laid_more bytes most R C i x y words slots some least high wide even_rows even_columns inside small fits l ex ey
    so_far r c lr lc =
    let s : Shape = get_or (shapes R C) i Corner1 in
    let w : ℕ = get_or words i 0 in
    let next : suc i ≡ i + 1 = omega arith in
    let rest : List Place = places_from R C (suc i) (drop (suc i) (shapes R C)) in
    let at : x ≡ slot_of bytes most s = ex ∙ get_or-map (slot_of bytes most) (shapes R C) i Corner1 0 l in
    ap (λ (j : ℕ). laid_slots most R C (with_byte bytes slots x y) r c || marks words (places_from R C j (drop j
    (shapes R C))) r c)
    (sym next)
    ∙ ap (λ (j : ℕ). laid_slots most R C (with_byte bytes slots j y) r c || marks words rest r c) at
    ∙ ap (λ (j : ℕ). laid_slots most R C (with_byte bytes slots (slot_of bytes most s) j) r c || marks words rest r c)
    ey
    ∙ ap (λ (b : Bool). b || marks words rest r c)
    (slot_put bytes most R C w slots s r c some least high wide even_rows even_columns inside small (fits_here R C i
    (shapes R C) fits l) lr lc)
    ∙ or_assoc (laid_slots most R C slots r c) (marks_in w 0 (cells_of R C s) r c) (marks words rest r c)
    ∙ ap (λ (b : Bool). laid_slots most R C slots r c || b) (sym (marks_word words i 0 (cells_of R C s) rest r c))
    ∙ ap (λ (ss : List Shape). laid_slots most R C slots r c || marks words (places_from R C i ss) r c)
    (sym (drop-cons (shapes R C) i Corner1 l))
    ∙ so_far r c lr lc

-- Slots of zeros scatter to no cell.
scattered_none : (n m r c : ℕ) → scattered n (replicate m 0) r c ≡ false
scattered_none n m r c =
    rw (none, none, and-false, none, and-false)
  where
    zeros : List ℕ
    zeros = replicate m 0

    guarded : (a b d : Bool) → (a && (b && (d && false))) ≡ false
    guarded x b d = grind (arith, nat_tests)

    none : (q low count : ℕ) → by_anchors n zeros q low count c ≡ false
    none q low count =
        rw (light_at, guarded)

-- A byte without bits marks no cell.
marks_none : (y k : ℕ) (xs : List Cell) (r c : ℕ) → ((t : ℕ) → is_dark_bit y t ≡ false) → marks_low y k xs r c ≡ false
marks_none y k [] r c dark = refl
marks_none y k (x ∷ xs) r c dark =
    rw (dark k, and-false (nat_eq r x.row && nat_eq c x.column), marks_none y (suc k) xs r c dark)

-- With slots of zeros and all codewords still to come, the matrix is that of all codewords.
pub laid_first : (most R C m : ℕ) (words slots : List ℕ) → slots ≡ replicate m 0 → AreLaid most R C words slots 0
unfolding places_in_order
laid_first most R C m words slots e r c lr lc =
    ap (λ (ss : List ℕ). laid_slots most R C ss r c || marks words (places_from R C 0 (shapes R C)) r c) e
    ∙ ap (λ (b : Bool). (b || marks_low (get_or (replicate m 0) most 0) 0 (corner_cells R C) r c)
    || marks words (places_from R C 0 (shapes R C)) r c)
    (folded_same R C (C + 8) (scattered R (replicate m 0)) (λ i j. false) r c lc (omega arith)
    (λ i j _. scattered_none R m i j) ∙ folded_none R C r c)
    ∙ ap (λ (b : Bool). b || marks words (places_from R C 0 (shapes R C)) r c)
    (marks_none (get_or (replicate m 0) most 0) 0 (corner_cells R C) r c (light_at m most))

-- The byte in the slot of the corner marks what the codeword of the corner does.
corner_same : (R C y r c : ℕ) → marks_low y 0 (corner_cells R C) r c ≡ corner_marks R C (reversed_bits (y % 256)) r c
corner_same R C y r c = grind (arith, nat_tests, tests_of, marks_turned, or-false)

-- Once the last codeword is in its slot, the scattered and folded slots are the matrix of all codewords.
pub laid_all : (most R C i : ℕ) (words slots : List ℕ) → length (shapes R C) ≤ i → AreLaid most R C words slots i →
    (r c : ℕ) → r < R → c < C → (folded R C (scattered R slots) r c
    || corner_marks R C (reversed_bits (get_or slots most 0 % 256)) r c) ≡
    marks words (places_in_order R C) r c
laid_all most R C i words slots l laid r c lr lc =
    ap (λ (b : Bool). folded R C (scattered R slots) r c || b) (sym (corner_same R C
    (get_or slots most 0) r c))
    ∙ sym (or-false (laid_slots most R C slots r c))
    ∙ ap (λ (ss : List Shape). laid_slots most R C slots r c || marks words (places_from R C i ss) r c)
    (sym (drop_of_length-le (shapes R C) l))
    ∙ laid r c lr lc
