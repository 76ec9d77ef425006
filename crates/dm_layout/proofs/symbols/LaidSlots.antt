-- One more codeword in its slot, and the cells that it darkens.
use Rattle.dm_layout.proofs.Names.{nat_tests, ◌≡◌, ◌⊎◌, inl, inr, ℕ, zero, suc, ◌+◌, ◌-◌, ◌*◌, ◌/◌, ◌%◌, ◌^◌, ◌<◌, ◌≤◌}
use Rattle.dm_layout.proofs.Names.{Bool, true, false, ◌&&◌, ◌||◌, nat_eq, nat_le, nat_lt, List, [], ◌∷◌, ◌++◌, length}
use Rattle.dm_layout.proofs.Names.{get_or, set, sym, ◌∙◌, ap, arith, Decides, bit_or, and-or_distrib_left, or-false}
use Rattle.dm_layout.proofs.Names.{and-true, and-false, mod-eq_of_lt, pow_pos, pow_mono, pow-add, mul-add-lt}
use Rattle.dm_layout.proofs.Names.{bit_at_above, true≢false, cases_eq, cases_lt, lt-leb, le-leb, ltb-true, ne_eqb}
use Rattle.dm_layout.proofs.Names.{Decides-and, Decides-or, Decides-like, same_from_decides, Cell, At, wrapped_cell}
use Rattle.dm_layout.proofs.Names.{CellsInside, is_dark_bit, by_anchors, scattered, folded, look_in, first_column}
use Rattle.dm_layout.proofs.Names.{cells_of, Standard}
use Rattle.dm_layout.proofs.symbols.FoldedRows.{IsCell, one_cell, decides_le, decides_cell, folded_or, folded_same}
use Rattle.dm_layout.proofs.symbols.FoldedRows.{folded_none, folded_cell}
use Rattle.dm_layout.proofs.symbols.WidenedRows.{put_over, bit_up, none_up}
use Rattle.dm_layout.proofs.symbols.MarkedCells.{marks_low, marks_append}

-- ---- cells in a row

-- So many cells of a row follow one another from a column on.
abbrev pub cells_run : ℕ → ℕ → ℕ → List Cell
cells_run i b zero = []
cells_run i b (suc m) = At i b ∷ cells_run i (b + 1) m

-- The cell is one of these in the row, and its bit is 1.
abbrev InRun : ℕ → ℕ → ℕ → ℕ → ℕ → ℕ → ℕ → Type 0
InRun y k i b m r c = (r ≡ i) × (b ≤ c) × (c < b + m) × (is_dark_bit y (c - b + k) ≡ true)

itself : (b : Bool) → Decides b (b ≡ true)
itself b = (λ e. e, λ e. e)

decides_run : (y k i b m r c : ℕ) → Decides (marks_low y k (cells_run i b m) r c) (InRun y k i b m r c)
decides_run y k i b zero r c =
    (λ e. absurd (true≢false (sym e)), λ h. let lo = h.1 in let hi = h.2 in absurd (omega arith))
decides_run y k i b (suc m) r c =
    Decides-like (marks_low y k (cells_run i b (suc m)) r c) to from
    (Decides-or (one_cell i b r c && is_dark_bit y k) _
    (Decides-and (one_cell i b r c) _ (decides_cell i b r c) (itself (is_dark_bit y k)))
    (decides_run y (suc k) i (b + 1) m r c))
  where
    to : (IsCell i b r c × (is_dark_bit y k ≡ true)) ⊎ InRun y (suc k) i (b + 1) m r c → InRun y k i b (suc m) r c
    to x = grind (arith, nat_tests)

    from : InRun y k i b (suc m) r c → (IsCell i b r c × (is_dark_bit y k ≡ true)) ⊎ InRun y (suc k) i (b + 1) m r c
    from (er, lo, hi, d) = by (cases_eq c b)
      where
        by : (c ≡ b) ⊎ (c ≡ b → ⊥) → (IsCell i b r c × (is_dark_bit y k ≡ true)) ⊎ InRun y (suc k) i (b + 1) m r c
        by x = grind (arith, nat_tests)

-- Cells that follow one another are marked alike d rows further down.
run_below : (y k i b m d r c : ℕ) → (nat_le d r && marks_low y k (cells_run i b m) (r - d) c) ≡
    marks_low y k (cells_run (i + d) b m) r c
run_below y k i b m d r c = grind (arith, nat_tests, same_from_decides, decides_le, decides_run)

-- ---- one more codeword

-- A byte that is moved to the left, in a number wide enough, loses no bit.
pub byte_fits : (y s width : ℕ) → y < 256 → s + 8 ≤ width → y * 2 ^ s % 2 ^ width ≡ y * 2 ^ s
byte_fits y s width small fits =
    let a = mul-add-lt y (2 ^ s) 0 256 small (pow_pos s) in
    let b : 2 ^ (s + 8) ≡ 2 ^ s * 2 ^ 8 = pow-add 2 s 8 in
    let d : 2 ^ (s + 8) ≤ 2 ^ width = pow_mono fits in
    mod-eq_of_lt (omega (arith, a, b, d))

-- A byte that is moved to the left, in a number wide enough, has its bits as many columns further on.
pub byte_up : (y s width c : ℕ) → y < 256 → s + 8 ≤ width →
    is_dark_bit (y * 2 ^ s % 2 ^ width) c ≡ (nat_le s c && is_dark_bit y (c - s))
byte_up y s width c small fits =
    ap (λ (i : ℕ). is_dark_bit i c) (byte_fits y s width small fits) ∙ by_column (cases_lt c s)
  where
    by_column : (c < s) ⊎ (s ≤ c) → is_dark_bit (y * 2 ^ s) c ≡ (nat_le s c && is_dark_bit y (c - s))
    by_column (inl h) = none_up y s c h ∙ ap (λ (t : Bool). t && is_dark_bit y (c - s)) (sym (lt-leb s c h))
    by_column (inr h) =
        let e : c ≡ s + (c - s) = omega (arith, h) in
        cc (e, bit_up y s (c - s), le-leb s c h)

-- A bit of a byte that is 1 is one of the first eight.
byte_bits : (y t : ℕ) → y < 256 → is_dark_bit y t ≡ true → t < 8
byte_bits y t small e = by_place (cases_lt t 8)
  where
    by_place : (t < 8) ⊎ (8 ≤ t) → t < 8
    by_place (inl h) = h
    by_place (inr h) = absurd (true≢false (sym e ∙ ap (λ (i : ℕ). nat_eq i 1) (bit_at_above y 8 t small h)))

-- A byte in a slot darkens this column by its bits from `low` on, `count` of them.
abbrev added : ℕ → ℕ → ℕ → ℕ → ℕ → ℕ → ℕ → Bool
added n s x q low count c =
    nat_lt q n && (nat_le (first_column q) c && (nat_lt ((c - first_column q) % 8) count
    && (nat_eq q s && is_dark_bit x (c - first_column q + low))))

anchors_or : (n s x q low count c : ℕ) (slots : List ℕ) → s < length slots →
    by_anchors n (set slots s (bit_or (get_or slots s 0) x)) q low count c ≡
    (by_anchors n slots q low count c || added n s x q low count c)
anchors_or n s x q low count c slots l =
    let j : ℕ = c - first_column q + low in
    let t1 : Bool = nat_lt q n in
    let t2 : Bool = nat_le (first_column q) c in
    let t3 : Bool = nat_lt ((c - first_column q) % 8) count in
    let old : Bool = look_in slots q j in
    let new : Bool = nat_eq q s && is_dark_bit x j in
    rw (put_over, and-or_distrib_left, and-or_distrib_left, and-or_distrib_left)

-- A byte in a slot darkens this column: the same test, as equations of numbers.
abbrev IsAdded : ℕ → ℕ → ℕ → ℕ → ℕ → ℕ → ℕ → ℕ → Type 0
IsAdded n i y s q low count c =
    (q < n) × ((first_column q ≤ c) × (((c - first_column q) % 8 < count)
    × ((q ≡ i) × ((s ≤ c - first_column q + low) × (is_dark_bit y (c - first_column q + low - s) ≡ true)))))

decides_added : (n i y s width q low count c : ℕ) → y < 256 → s + 8 ≤ width →
    Decides (added n i (y * 2 ^ s % 2 ^ width) q low count c) (IsAdded n i y s q low count c)
decides_added n i y s width q low count c small fits = grind (arith, nat_tests, decides_le, byte_up, itself)

-- A byte in the slot of an anchor darkens the cells of its shape beside the anchor.
added_run : (n i j y width q low count c : ℕ) → i < n → (5 * i + j) % 8 ≡ 4 → y < 256 → 8 * (j / 8) + 8 ≤ width →
    low + count ≤ 8 →
    added n i (y * 2 ^ (8 * (j / 8)) % 2 ^ width) q low count c ≡ marks_low y low (cells_run i (j + 2) count) q c
added_run n i j y width q low count c li anchor small fits low_count =
    grind (arith, nat_tests, same_from_decides, decides_added, decides_run, byte_bits)

-- A byte in a slot behind all rows darkens nothing.
added_none : (n s x q low count c : ℕ) → n ≤ s → added n s x q low count c ≡ false
added_none n s x q low count c far = grind (arith, nat_tests, and-false, ltb-true, ne_eqb)

-- The cells of a standard shape in widened rows.
abbrev pub wide_cells : ℕ → ℕ → List Cell
wide_cells i j = cells_run i (j + 2) 2 ++ cells_run (i + 1) (j + 2) 3 ++ cells_run (i + 2) (j + 2) 3

-- Where something is added to each of three rows, the rows together get all of it.
three_added : (a b d x y z : Bool) → ((a || x) || ((b || y) || (d || z))) ≡ ((a || (b || d)) || (x || (y || z)))
three_added x b d y z w = grind (arith, nat_tests)

module _ (n : ℕ) (slots : List ℕ) where
  -- A byte in the slot of an anchor scatters to the cells of the anchor's shape.
  pub scattered_shape : (i j y width r c : ℕ) → i < n → (5 * i + j) % 8 ≡ 4 → y < 256 → 8 * (j / 8) + 8 ≤ width →
      i < length slots →
      scattered n (set slots i (bit_or (get_or slots i 0) (y * 2 ^ (8 * (j / 8)) % 2 ^ width))) r c ≡
      (scattered n slots r c || marks_low y 0 (wide_cells i j) r c)
  scattered_shape i j y width r c li anchor small fits l =
      ap (λ (b : Bool). b || ((nat_le 1 r && by_anchors n news (r - 1) 2 3 c)
      || (nat_le 2 r && by_anchors n news (r - 2) 5 3 c))) (in_row r 0 2 (omega arith))
      ∙ ap (λ (b : Bool). (by_anchors n slots r 0 2 c || marks_low y 0 first r c)
      || (b || (nat_le 2 r && by_anchors n news (r - 2) 5 3 c))) (in_lower 1 2 3 (omega arith))
      ∙ ap (λ (b : Bool). (by_anchors n slots r 0 2 c || marks_low y 0 first r c)
      || (((nat_le 1 r && by_anchors n slots (r - 1) 2 3 c) || marks_low y 2 second r c) || b))
      (in_lower 2 5 3 (omega arith))
      ∙ three_added (by_anchors n slots r 0 2 c) (nat_le 1 r && by_anchors n slots (r - 1) 2 3 c)
      (nat_le 2 r && by_anchors n slots (r - 2) 5 3 c) (marks_low y 0 first r c) (marks_low y 2 second r c)
      (marks_low y 5 third r c)
      ∙ ap (λ (b : Bool). scattered n slots r c || (marks_low y 0 first r c || b))
      (sym (marks_append y 2 second third r c))
      ∙ ap (λ (b : Bool). scattered n slots r c || b) (sym (marks_append y 0 first (second ++ third) r c))
    where
      x : ℕ
      x = y * 2 ^ (8 * (j / 8)) % 2 ^ width

      news : List ℕ
      news = set slots i (bit_or (get_or slots i 0) x)

      first : List Cell
      first = cells_run i (j + 2) 2

      second : List Cell
      second = cells_run (i + 1) (j + 2) 3

      third : List Cell
      third = cells_run (i + 2) (j + 2) 3

      in_row : (q low count : ℕ) → low + count ≤ 8 →
          by_anchors n news q low count c ≡ (by_anchors n slots q low count c
          || marks_low y low (cells_run i (j + 2) count) q c)
      in_row q low count low_count =
          rw (anchors_or, added_run)

      in_lower : (d low count : ℕ) → low + count ≤ 8 →
          (nat_le d r && by_anchors n news (r - d) low count c) ≡
          ((nat_le d r && by_anchors n slots (r - d) low count c)
          || marks_low y low (cells_run (i + d) (j + 2) count) r c)
      in_lower d low count low_count =
          rw (in_row, and-or_distrib_left, run_below)

  -- A byte in a slot behind all rows scatters to no cell.
  pub scattered_corner : (s x r c : ℕ) → n ≤ s → s < length slots →
      scattered n (set slots s (bit_or (get_or slots s 0) x)) r c ≡ scattered n slots r c
  scattered_corner s x r c far l =
      rw (same, same, same)
    where
      news : List ℕ
      news = set slots s (bit_or (get_or slots s 0) x)

      same : (q low count : ℕ) → by_anchors n news q low count c ≡ by_anchors n slots q low count c
      same q low count =
          rw (anchors_or, added_none, or-false)

-- ---- folded cells

-- Each of these cells is folded to the one of those that stands in its place.
abbrev AreFolded : ℕ → ℕ → ℕ → ℕ → List Cell → List Cell → Type 0
AreFolded R C r c [] [] = Unit {0}
AreFolded R C r c [] (z ∷ zs) = ⊥
AreFolded R C r c (x ∷ xs) [] = ⊥
AreFolded R C r c (x ∷ xs) (z ∷ zs) =
    (folded R C (one_cell x.row x.column) r c ≡ one_cell z.row z.column r c) × AreFolded R C r c xs zs

-- A picture that a bit shows or hides is folded alike.
folded_and : (R C : ℕ) (f : ℕ → ℕ → Bool) (d : Bool) (r c : ℕ) → c < C →
    folded R C (λ i j. f i j && d) r c ≡ (folded R C f r c && d)
folded_and R C f true r c l =
    folded_same R C (C + 8) (λ i j. f i j && true) f r c l (omega arith) (λ i j _. and-true (f i j))
    ∙ sym (and-true (folded R C f r c))
folded_and R C f false r c l =
    folded_same R C (C + 8) (λ i j. f i j && false) (λ i j. false) r c l (omega arith) (λ i j _. and-false (f i j))
    ∙ folded_none R C r c ∙ sym (and-false (folded R C f r c))

pub folded_marks : (R C y k r c : ℕ) (xs zs : List Cell) → c < C → AreFolded R C r c xs zs →
    folded R C (marks_low y k xs) r c ≡ marks_low y k zs r c
folded_marks R C y k r c [] [] l h = folded_none R C r c
folded_marks R C y k r c [] (z ∷ zs) l h = absurd h
folded_marks R C y k r c (x ∷ xs) [] l h = absurd h
folded_marks R C y k r c (x ∷ xs) (z ∷ zs) l h =
    folded_or R C (λ i j. one_cell x.row x.column i j && is_dark_bit y k) (marks_low y (suc k) xs) r c
    ∙ ap (λ (b : Bool). b || folded R C (marks_low y (suc k) xs) r c)
    (folded_and R C (one_cell x.row x.column) (is_dark_bit y k) r c l)
    ∙ ap (λ (b : Bool). (b && is_dark_bit y k) || folded R C (marks_low y (suc k) xs) r c) h.0
    ∙ ap (λ (b : Bool). (one_cell z.row z.column r c && is_dark_bit y k) || b) (folded_marks R C y
    (suc k) r c xs zs l h.1)

-- The cells of a standard shape in widened rows are folded to where the shape wraps.
pub wide_folded : (R C i j r c : ℕ) → 6 ≤ R → 6 ≤ C → R % 2 ≡ 0 → C % 2 ≡ 0 → i < R → j < C → (5 * i + j) % 8 ≡ 4 →
    r < R → c < C →
    CellsInside R C (cells_of R C (Standard i j)) → AreFolded R C r c (wide_cells i j) (cells_of R C (Standard i j))
wide_folded R C i j r c some least even_rows even_columns li lj anchor lr lc inside = (
  at 2 2 i (j + 2) (omega arith) (omega arith) (omega arith) (omega arith) inside.1,
  (
    at 2 1 i (j + 2 + 1) (omega arith) (omega arith) (omega arith) (omega arith) inside.2.1,
    (
      at 1 2 (i + 1) (j + 2) (omega arith) (omega arith) (omega arith) (omega arith) inside.2.2.1,
      (
        at 1 1 (i + 1) (j + 2 + 1) (omega arith) (omega arith) (omega arith) (omega arith) inside.2.2.2.1,
        (
          at 1 0 (i + 1) (j + 2 + 1 + 1) (omega arith) (omega arith) (omega arith) (omega arith) inside.2.2.2.2.1,
          (
            at 0 2 (i + 2) (j + 2) (omega arith) (omega arith) (omega arith) (omega arith) inside.2.2.2.2.2.1,
            (
              at 0 1 (i + 2) (j + 2 + 1) (omega arith) (omega arith) (omega arith) (omega arith) inside.2.2.2.2.2.2.1,
              (
                at 0 0 (i + 2) (j + 2 + 1 + 1) (omega arith) (omega arith) (omega arith)
                    (omega arith) inside.2.2.2.2.2.2.2.1,
                tt,
              ),
            ),
          ),
        ),
      ),
    ),
  ),
)
  where
    at : (up left a b : ℕ) → up ≤ 2 → left ≤ 2 → a + up ≡ i + 2 → b + left ≡ j + 4 →
        (wrapped_cell R C i j up left).column < C →
        folded R C (one_cell a b) r c ≡ one_cell (wrapped_cell R C i j up left).row
        (wrapped_cell R C i j up left).column r c
    at up left a b lu ll ea eb ic = folded_cell R C i j up left a b r c some least even_rows even_columns li lj
        anchor lu ll ea eb lr lc ic
