-- Rows of the mapping matrix in which the bits of codewords are put at their places.
use Rattle.dm_layout.proofs.Names.{nat_tests, ◌≡◌, ◌⊎◌, inl, inr, ℕ, zero, suc, ◌+◌, ◌-◌, ◌*◌, ◌/◌, ◌%◌, ◌^◌, ◌<◌, ◌≤◌}
use Rattle.dm_layout.proofs.Names.{Bool, true, false, ◌&&◌, ◌||◌, nat_eq, List, [], ◌∷◌, ◌++◌, length, get_or, set}
use Rattle.dm_layout.proofs.Names.{drop, refl, sym, ◌∙◌, ap, arith, eq-eqb, bit_or, or_assoc, and-true, and-false}
use Rattle.dm_layout.proofs.Names.{mod-eq_of_lt, pow_pos, eqb-true, eqb-false, ne_eqb, cases_lt, pow_below, bit_at-zero}
use Rattle.dm_layout.proofs.Names.{bit_at_above, Cell, Place, is_fixed, bit_of, At, IsPlace, EachCellOnce}
use Rattle.dm_layout.proofs.Names.{places_in_order, is_dark_bit, look_in, marks_in, one_bit, none_fixed}
use Rattle.std.proofs.Math.Bool.{false-or, and_assoc}
use Rattle.dm_place.specs.Placement.{bits_from}
use Rattle.dm_place.proofs.Exported.{ArePlaces, all_are_places, place_at, lies_in, length-places_in_order}
use Rattle.dm_layout.proofs.symbols.WidenedRows.{put_over, bit_up, none_up}

-- ---- one bit

-- A bit that is moved to the left, in a number wide enough, stands alone in its column.
bit_moved : (width col d c : ℕ) → col < width → d < 2 →
    is_dark_bit (d * 2 ^ col % 2 ^ width) c ≡ (nat_eq c col && nat_eq d 1)
bit_moved width col zero c l small =
    let p = pow_pos width in
    let e : 0 * 2 ^ col % 2 ^ width ≡ 0 = omega (arith, p) in
    ap (λ (i : ℕ). is_dark_bit i c) e ∙ ap (λ (i : ℕ). nat_eq i 1) (bit_at-zero c) ∙ sym (and-false (nat_eq c col))
bit_moved width col (suc zero) c l small =
    let p = pow_below col width l in
    let e : 1 * 2 ^ col % 2 ^ width ≡ 1 * 2 ^ col = mod-eq_of_lt (omega (arith, p)) in
    ap (λ (i : ℕ). is_dark_bit i c) e ∙ by_column (cases_lt c col) ∙ sym (and-true (nat_eq c col))
  where
    by_column : (c < col) ⊎ (col ≤ c) → is_dark_bit (1 * 2 ^ col) c ≡ nat_eq c col
    by_column (inl h) = none_up 1 col c h ∙ sym (ne_eqb c col (λ e. omega (arith, e, h)))
    by_column (inr h) = let e : c ≡ col + (c - col) = omega (arith, h) in
        ap (is_dark_bit (1 * 2 ^ col)) e ∙ bit_up 1 col (c - col) ∙ one (c - col) refl
      where
        one : (t : ℕ) → t ≡ c - col → is_dark_bit 1 t ≡ nat_eq c col
        one zero e = sym (eq-eqb c col (omega (arith, e, h)))
        one (suc t) e =
            ap (λ (i : ℕ). nat_eq i 1) (bit_at_above 1 1 (suc t) (omega arith) (omega arith))
            ∙ sym (ne_eqb c col (λ f. omega (arith, e, f)))
bit_moved width col (suc (suc d)) c l small = absurd (omega arith)

-- Rows in which a bit is put at a cell are dark where they were, and at that cell if the bit is 1.
pub bit_put : (width : ℕ) (rows : List ℕ) (q col d r c : ℕ) → q < length rows → col < width → d < 2 →
    look_in (set rows q (bit_or (get_or rows q 0) (d * 2 ^ col % 2 ^ width))) r c ≡
    (look_in rows r c || (nat_eq r q && nat_eq c col && nat_eq d 1))
bit_put width rows q col d r c l lc ld =
    rw (put_over, bit_moved, and_assoc)

-- ---- one codeword, cell by cell

-- Two numbers are equal exactly if they are with the same number added to both.
same_sum : (a b k : ℕ) → nat_eq (a + k) (b + k) ≡ nat_eq a b
same_sum a b k = grind (arith, nat_tests, eqb-true, eq-eqb, eqb-false, ne_eqb)

-- When the next bit of a codeword is put at its cell in widened rows,
-- these and the bits still to come mark what they did.
pub cell_put : (width : ℕ) (rows olds : List ℕ) (word i d : ℕ) (cells : List Cell) (x : Cell) (rest : List Cell) →
    drop i cells ≡ x ∷ rest → rest ≡ drop (i + 1) cells → x.row + 2 < length rows → x.column + 4 < width → i < 8 →
    d ≡ word / 2 ^ (7 - i) % 2 →
    ((r c : ℕ) → (look_in rows (r + 2) (c + 4) || marks_in word i (drop i cells) r c) ≡
    (look_in olds (r + 2) (c + 4) || marks_in word 0 cells r c)) →
    (r c : ℕ) →
    (look_in (set rows (x.row + 2) (bit_or (get_or rows (x.row + 2) 0) (d * 2 ^ (x.column + 4) % 2 ^ width)))
    (r + 2) (c + 4) || marks_in word (i + 1) (drop (i + 1) cells) r c) ≡
    (look_in olds (r + 2) (c + 4) || marks_in word 0 cells r c)
cell_put width rows olds word i d cells x rest e f lr lc li ed so_far r c =
    let k : 7 - i ≡ 8 - (i + 1) = omega arith in
    let j : suc i ≡ i + 1 = omega arith in
    let dd : d ≡ word / 2 ^ (8 - (i + 1)) % 2 = ed ∙ ap (λ (m : ℕ). word / 2 ^ m % 2) k in
    let ld : d < 2 = omega (arith, ed) in
    let h : Bool = nat_eq r x.row && nat_eq c x.column && nat_eq d 1 in
    let old : Bool = look_in rows (r + 2) (c + 4) in
    cc (
      bit_put width rows (x.row + 2) (x.column + 4) d (r + 2) (c + 4) lr lc ld,
      same_sum r x.row 2,
      same_sum c x.column 4,
      or_assoc old h (marks_in word (i + 1) (drop (i + 1) cells) r c),
      dd,
      j,
      f,
      e,
      so_far r c,
    )

-- ---- all codewords

-- One of these places lies at this row and column, and its bit is 1.
abbrev pub marks : List ℕ → List Place → ℕ → ℕ → Bool
marks words [] r c = false
marks words (p ∷ rest) r c = (nat_eq r p.row && nat_eq c p.column && bit_of words p.word p.bit) || marks words rest r c

-- The places of a codeword, followed by others, mark what the codeword marks in its cells and what the others mark.
pub marks_word : (words : List ℕ) (w k : ℕ) (xs : List Cell) (rest : List Place) (r c : ℕ) →
    marks words (bits_from w k xs ++ rest) r c ≡ (marks_in (get_or words w 0) k xs r c || marks words rest r c)
marks_word words w k [] rest r c = sym (false-or (marks words rest r c))
marks_word words w k (x ∷ xs) rest r c =
    let h : Bool = nat_eq r x.row && nat_eq c x.column && bit_of words w (k + 1) in
    ap (λ (b : Bool). h || b) (marks_word words w (suc k) xs rest r c)
    ∙ sym (or_assoc h (marks_in (get_or words w 0) (suc k) xs r c) (marks words rest r c))

-- ---- what is marked

-- Three tests don't all pass if the third fails whenever the other two pass.
head_false : (a b d : Bool) → (a ≡ true → b ≡ true → d ≡ false) → (a && b && d) ≡ false
head_false x b d h = grind (arith, nat_tests)

-- Where each of two tests fails, neither passes.
both_false : (a b : Bool) → a ≡ false → b ≡ false → (a || b) ≡ false
both_false a b e f = ap (λ (x : Bool). x || b) e ∙ false-or b ∙ f

-- A place whose row and column are those of a cell is a place of that cell.
same_place : (R C r c : ℕ) (p : Place) → nat_eq r p.row ≡ true → nat_eq c p.column ≡ true →
    IsPlace R C p.word p.bit (At p.row p.column) → IsPlace R C p.word p.bit (At r c)
same_place R C r c p e f h =
    rw (← eqb-true r p.row e, ← eqb-true c p.column f) at h

-- A cell whose bit is 0 isn't marked.
marks_none : (R C : ℕ) (words : List ℕ) (r c w b : ℕ) (ps : List Place) → EachCellOnce R C → IsPlace R C w b (At r c) →
    bit_of words w b ≡ false → ArePlaces R C ps → marks words ps r c ≡ false
marks_none R C words r c w b [] law place e are = refl
marks_none R C words r c w b (p ∷ rest) law place e are =
    both_false _ _
    (head_false (nat_eq r p.row) (nat_eq c p.column) (bit_of words p.word p.bit) (λ x y.
    let one = one_bit R C r c w b p.word p.bit law place (same_place R C r c p x y are.0) in
    ap (λ (i : ℕ). bit_of words i p.bit) one.0 ∙ ap (bit_of words w) one.1 ∙ e))
    (marks_none R C words r c w b rest law place e are.1)

-- A cell of the fixed square isn't marked.
marks_fixed : (R C : ℕ) (words : List ℕ) (r c : ℕ) (ps : List Place) → EachCellOnce R C → is_fixed R C r c ≡ true →
    ArePlaces R C ps → marks words ps r c ≡ false
marks_fixed R C words r c [] law e are = refl
marks_fixed R C words r c (p ∷ rest) law e are =
    both_false _ _
    (head_false (nat_eq r p.row) (nat_eq c p.column) (bit_of words p.word p.bit)
    (λ x y. absurd (none_fixed R C r c p.word p.bit law e (same_place R C r c p x y are.0))))
    (marks_fixed R C words r c rest law e are.1)

-- One of two tests passes if the second does.
or_true : (a : Bool) → (a || true) ≡ true
or_true true = refl
or_true false = refl

-- Where three tests pass, they pass together, or something else does.
three_true : (a b d x : Bool) → a ≡ true → b ≡ true → d ≡ true → ((a && b && d) || x) ≡ true
three_true x b d y e f g = grind (arith, nat_tests)

-- A cell is marked by its place if its bit there is 1.
marks_some : (words : List ℕ) (r c w b : ℕ) (ps : List Place) (i : ℕ) (d : Place) → i < length ps →
    get_or ps i d ≡ lies_in w b (At r c) → bit_of words w b ≡ true → marks words ps r c ≡ true
marks_some words r c w b [] i d l e f = absurd (omega arith)
marks_some words r c w b (p ∷ rest) zero d l e f =
    three_true _ _ _ (marks words rest r c) (ap (λ (q : Place). nat_eq r q.row) e ∙ eq-eqb r r refl)
    (ap (λ (q : Place). nat_eq c q.column) e ∙ eq-eqb c c refl)
    (ap (λ (q : Place). bit_of words q.word q.bit) e ∙ f)
marks_some words r c w b (p ∷ rest) (suc i) d l e f =
    let h : Bool = nat_eq r p.row && nat_eq c p.column && bit_of words p.word p.bit in
    ap (λ (x : Bool). h || x) (marks_some words r c w b rest i d (omega arith) e f) ∙ or_true h

-- The places of all bits mark the cell of a bit exactly if the bit is 1.
pub marks_bit : (R C : ℕ) (words : List ℕ) (w b : ℕ) (cell : Cell) → EachCellOnce R C → IsPlace R C w b cell →
    marks words (places_in_order R C) cell.row cell.column ≡ bit_of words w b
marks_bit R C words w b cell law p = by_bit (bit_of words w b) refl
  where
    by_bit : (t : Bool) → bit_of words w b ≡ t → marks words (places_in_order R C) cell.row cell.column ≡ t
    by_bit false e = marks_none R C words cell.row cell.column w b (places_in_order R C) law p e (all_are_places R C)
    by_bit true e =
        let d : Place = lies_in w b cell in
        let lo = p.from_one in
        let hi = p.to_eight in
        let k : 8 * w + (b - 1) < length (places_in_order R C) = omega (arith, length-places_in_order R C, p.word_in) in
        marks_some words cell.row cell.column w b (places_in_order R C) (8 * w + (b - 1)) d k
        (place_at R C w b d p.word_in lo hi ∙ ap (lies_in w b) p.there) e

-- The places of all bits mark nothing in the fixed square.
pub marks_no_fixed : (R C : ℕ) (words : List ℕ) (r c : ℕ) → EachCellOnce R C → is_fixed R C r c ≡ true →
    marks words (places_in_order R C) r c ≡ false
marks_no_fixed R C words r c law e = marks_fixed R C words r c (places_in_order R C) law e (all_are_places R C)
