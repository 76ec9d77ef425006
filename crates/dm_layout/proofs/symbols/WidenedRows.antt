-- Rows of the mapping matrix that are widened.
use Rattle.dm_layout.proofs.Names.{nat_tests, ◌≡◌, ◌≢◌, ◌⊎◌, ℕ, ◌+◌, ◌-◌, ◌*◌, ◌/◌, ◌%◌, ◌^◌, ◌<◌, ◌≤◌, Bool, true}
use Rattle.dm_layout.proofs.Names.{false, ◌&&◌, ◌||◌, nat_eq, nat_le, nat_lt, List, length, get_or, set, refl, sym, ◌∙◌}
use Rattle.dm_layout.proofs.Names.{ap, arith, subst, get_or-set_other, get_or-set_same, bit_or, or-false, pow_pos}
use Rattle.dm_layout.proofs.Names.{eqb-true, eqb-false, lt-ltb, le-ltb, le-leb, lt-leb, cases_lt, div-add-mod'}
use Rattle.dm_layout.proofs.Names.{div-mul-add, pow-add, bit_at_cat_low, bit_at_cat_high, bit_at_above, symbol_line}
use Rattle.dm_layout.proofs.Names.{is_dark_bit, look_in, round, source, IsMoved, IsWidened}
use Rattle.dm_layout.proofs.symbols.Rows.{moved_bit, or_dark}

-- ---- rows that are laid over others

-- When a row is laid over another one, the cells are dark that were, and
-- those of that row that are dark in the one laid over it.
pub put_over : (rows : List ℕ) (q x r c : ℕ) → q < length rows →
    look_in (set rows q (bit_or (get_or rows q 0) x)) r c ≡ (look_in rows r c || (nat_eq r q && is_dark_bit x c))
put_over rows q x r c l =
    grind (arith, nat_tests, eqb-true, get_or-set_same, or_dark, get_or-set_other, eqb-false, or-false)

-- Rows from row 2 on, above `until`, over which others are laid.
abbrev pub laid_over : List ℕ → (ℕ → ℕ → Bool) → ℕ → ℕ → ℕ → Bool
laid_over olds other until r c = look_in olds r c || ((nat_le 2 r && nat_lt r until) && other r c)

-- When another row is laid over one more row, it is so with the rows above the next.
pub over_more : (olds rows : List ℕ) (other : ℕ → ℕ → Bool) (row x : ℕ) → row + 2 < length rows →
    ((c : ℕ) → is_dark_bit x c ≡ other (row + 2) c) →
    ((r c : ℕ) → look_in rows r c ≡ laid_over olds other (row + 2) r c) →
    (r c : ℕ) → look_in (set rows (row + 2) (bit_or (get_or rows (row + 2) 0) x)) r c ≡
    laid_over olds other (row + 1 + 2) r c
over_more olds rows other row x inside there so_far r c =
    rw (put_over, so_far, there, by_row)
  where
    here : (a b : Bool) → ((a || (true && false) && b) || (true && b)) ≡ (a || ((true && true) && b))
    here true b = refl
    here false b = refl

    by_row : (t : Bool) → nat_eq r (row + 2) ≡ t →
        (laid_over olds other (row + 2) r c || (t && other (row + 2) c)) ≡ laid_over olds other (row + 1 + 2) r c
    by_row true e =
        let er = eqb-true r (row + 2) e in
        let two = le-leb 2 r (omega (arith, er)) in
        let no = le-ltb r (row + 2) (omega (arith, er)) in
        let yes = lt-ltb r (row + 1 + 2) (omega (arith, er)) in
        let b : Bool = other r c in
        ap (λ (i : ℕ). laid_over olds other (row + 2) r c || (true && other i c)) (sym er)
        ∙ ap (λ (t : Bool). (look_in olds r c || ((t && nat_lt r (row + 2)) && b)) || (true && b)) two
        ∙ ap (λ (t : Bool). (look_in olds r c || ((true && t) && b)) || (true && b)) no
        ∙ here (look_in olds r c) b
        ∙ ap (λ (t : Bool). look_in olds r c || ((true && t) && b)) (sym yes)
        ∙ ap (λ (t : Bool). look_in olds r c || ((t && nat_lt r (row + 1 + 2)) && b)) (sym two)
    by_row false e =
        rw (or-false (laid_over olds other (row + 2) r c), same (cases_lt r (row + 2)))
      where
        same : (r < row + 2) ⊎ (row + 2 ≤ r) → nat_lt r (row + 2) ≡ nat_lt r (row + 1 + 2)
        same x = grind (arith, nat_tests, lt-ltb, row, le-ltb, eqb-false)

-- ---- bits of rows that are moved

-- In a row that is moved to the left by s columns, bit s + c is bit c of the row.
pub bit_up : (x s c : ℕ) → is_dark_bit (x * 2 ^ s) (s + c) ≡ is_dark_bit x c
bit_up x s c =
    let z : x * 2 ^ s ≡ x * 2 ^ s + 0 = omega arith in
    let b : s + c - s ≡ c = omega arith in
    rw (z, bit_at_cat_high x s 0 (s + c) (pow_pos s) (omega arith), b)

-- To the right of a row that is moved to the left there is nothing.
pub none_up : (x s c : ℕ) → c < s → is_dark_bit (x * 2 ^ s) c ≡ false
none_up x s c l =
    let z : x * 2 ^ s ≡ x * 2 ^ s + 0 = omega arith in
    let o : 0 / 2 ^ c % 2 ≡ 0 = zero_bit (2 ^ c) (pow_pos c) in
    ap (λ (i : ℕ). is_dark_bit i c) z ∙ ap (λ (i : ℕ). nat_eq i 1) (bit_at_cat_low x s 0 c l ∙ o)
  where
    zero_bit : (p : ℕ) → 0 < p → 0 / p % 2 ≡ 0
    zero_bit p h = omega arith

-- The lowest n bits of a number are its own.
pub low_bit : (x n c : ℕ) → c < n → is_dark_bit (x % 2 ^ n) c ≡ is_dark_bit x c
low_bit x n c l =
    cc (bit_at_cat_low (x / 2 ^ n) n (x % 2 ^ n) c l, div-add-mod' x (2 ^ n))

-- A row of some width that is moved to the left by s columns and then to
-- the right by 4 has its bit c + 4 - s at column c.
pub moved_both : (width x s c : ℕ) → c + 4 < width → s ≤ c + 4 →
    is_dark_bit (x * 2 ^ s % 2 ^ width / 16) c ≡ is_dark_bit x (c + 4 - s)
moved_both width x s c l h =
    let e : 4 + c ≡ s + (c + 4 - s) = omega arith in
    ap (λ (i : ℕ). nat_eq i 1) (moved_bit (x * 2 ^ s % 2 ^ width) 4 c)
    ∙ low_bit (x * 2 ^ s) width (4 + c) (omega arith)
    ∙ ap (is_dark_bit (x * 2 ^ s)) e
    ∙ bit_up x s (c + 4 - s)

-- ---- the rows of the matrix

-- What holds of a row that is put among others, and of these others, holds of all rows then.
pub look_set : (P : Bool → Type 0) (rows : List ℕ) (q y r c : ℕ) → q < length rows → (r ≡ q → P (is_dark_bit y c)) →
    (r ≢ q → P (look_in rows r c)) → P (look_in (set rows q y) r c)
look_set P rows q y r c l here other = by_row (nat_eq r q) refl
  where
    by_row : (t : Bool) → nat_eq r q ≡ t → P (look_in (set rows q y) r c)
    by_row x e = grind (arith, nat_tests, eqb-true, get_or-set_same, here, eqb-false, get_or-set_other, rows)

-- A row of a region lies in the symbol behind two borders for each region before it, and one more.
pub line_here : (row region d until : ℕ) → until ≡ (region + 1) * d → region * d ≤ row → row < until →
    row + 2 * region + 1 ≡ symbol_line d row
line_here row region d until e lo hi =
    let j : ℕ = row - region * d in
    let s : (region + 1) * d ≡ region * d + d = omega arith in
    let lj : j < d = omega arith in
    let is : row ≡ region * d + j = omega arith in
    let q : row / d ≡ region = ap (λ (i : ℕ). i / d) is ∙ div-mul-add region d j lj in
    omega (arith, q)

-- Where nothing is dark, none of the rows of the matrix is there yet.
pub moved_none : (C row : ℕ) (look : ℕ → ℕ → Bool) (rows : List ℕ) → row ≡ 0 → ((r c : ℕ) → look_in rows r c ≡ false) →
    IsMoved C row look rows
moved_none C row look rows e light = record {
  inside = λ r c l lc. absurd (omega arith);
  left = λ r c l. light r c;
  right = λ r c l. light r c;
}

-- When one more row of the matrix is put, the rows above the next are there.
pub moved_more : (C row x : ℕ) (look : ℕ → ℕ → Bool) (rows news : List ℕ) → row + 2 < length rows → x < 2 ^ C →
    ((c : ℕ) → c < C → is_dark_bit x c ≡ look row c) → news ≡ set rows (row + 2) (x * 16) → IsMoved C row look rows →
    IsMoved C (row + 1) look news
moved_more C row x look rows news l narrow cells is moved = subst (IsMoved C (row + 1) look) (sym is) (record {
  inside = λ r c lr lc.
      look_set (λ b. b ≡ look r c) rows (row + 2) (x * 16) (r + 2) (c + 4) l
      (λ e.
      let er : row ≡ r = omega arith in
      let four : c + 4 ≡ 4 + c = omega arith in
      ap (is_dark_bit (x * 16)) four ∙ bit_up x 4 c ∙ cells c lc ∙ ap (λ (i : ℕ). look i c) er)
      (λ ne. moved.inside r c (omega arith) lc);
  left =
      λ r c lc. look_set (λ b. b ≡ false) rows (row + 2) (x * 16) r c l (λ e. none_up x 4 c lc)
      (λ ne. moved.left r c lc);
  right = λ r c lc.
      look_set (λ b. b ≡ false) rows (row + 2) (x * 16) r c l
      (λ e. ap (λ (i : ℕ). nat_eq i 1) (bit_at_above (x * 16) (C + 4) c small lc)) (λ ne. moved.right r c lc);
})
  where
    small : x * 16 < 2 ^ (C + 4)
    small = let p : 2 ^ (C + 4) ≡ 2 ^ C * 2 ^ 4 = pow-add 2 C 4 in omega (arith, p, narrow)

-- ---- the columns left of the matrix

-- The row that stands left of a row of the matrix is that of the matrix to which cells wrap, two rows further down.
pub source_round : (R shift r : ℕ) → shift ≤ r + 2 → source R shift r ≡ round R (r + 2 - shift) + 2
source_round R shift r h = grind (arith, nat_tests, cases_lt, source, lt-leb, le-leb)

-- A row that begins anew at the top lies in the matrix, if it was at most so many rows below it.
pub round_inside : (R x : ℕ) → x < R + R → round R x < R
round_inside R x h = grind (arith, nat_tests, cases_lt, lt-leb, le-leb)

-- What is wrapped to the left of the rows above `until`, with what was there before.
abbrev pub wrapped_left : List ℕ → ℕ → ℕ → ℕ → ℕ → ℕ → ℕ → Bool
wrapped_left rows R C shift until r c =
    look_in rows r c || ((nat_le 2 r && nat_lt r until) && look_in rows (source R shift r) (C + c))

-- From column 4 on nothing is added by wrapping.
nothing_far : (rows : List ℕ) (R C shift until r c : ℕ) → ((r c : ℕ) → C + 4 ≤ c → look_in rows r c ≡ false) → 4 ≤ c →
    wrapped_left rows R C shift until r c ≡ look_in rows r c
nothing_far rows R C shift until r c width l = grind (arith, nat_tests, source, nat_tests)

-- When one more row is wrapped, the rows above the next are wrapped.
pub wrap_more : (olds rows : List ℕ) (R C shift row from : ℕ) → 4 ≤ C → row + 2 < length rows →
    from ≡ source R shift (row + 2) →
    ((r c : ℕ) → C + 4 ≤ c → look_in olds r c ≡ false) →
    ((r c : ℕ) → look_in rows r c ≡ wrapped_left olds R C shift (row + 2) r c) →
    (r c : ℕ) →
    look_in (set rows (row + 2) (bit_or (get_or rows (row + 2) 0) (get_or rows from 0 / 2 ^ C))) r c ≡
    wrapped_left olds R C shift (row + 1 + 2) r c
wrap_more olds rows R C shift row from least inside source_is width so_far =
    over_more olds rows (λ r c. look_in olds (source R shift r) (C + c)) row (get_or rows from 0 / 2 ^ C) inside there
    so_far
  where
    there : (c : ℕ) → is_dark_bit (get_or rows from 0 / 2 ^ C) c ≡ look_in olds (source R shift (row + 2)) (C + c)
    there c = grind (arith, nat_tests, moved_bit, rows, from, so_far, nothing_far, row, width, least)

-- ---- the rows above the matrix

-- The two rows above the matrix are the last rows of the matrix, moved to where they wrap.
pub row_above : (width : ℕ) (rows : List ℕ) (n shift r c : ℕ) → 2 ≤ n → 2 < length rows → r < 2 → c + 4 < width →
    shift ≤ c + 4 →
    look_in (set (set rows 0 (get_or rows n 0 * 2 ^ shift % 2 ^ width / 16)) 1
    (get_or (set rows 0 (get_or rows n 0 * 2 ^ shift % 2 ^ width / 16)) (n + 1) 0 * 2 ^ shift % 2 ^ width / 16)) r
    c ≡ look_in rows (r + n) (c + 4 - shift)
row_above width rows n shift r c least long l lc h = by_row (nat_eq r 0) refl
  where
    x : ℕ
    x = get_or rows n 0 * 2 ^ shift % 2 ^ width / 16

    y : ℕ
    y = get_or (set rows 0 x) (n + 1) 0 * 2 ^ shift % 2 ^ width / 16

    length_set : length (set rows 0 x) ≡ length rows
    length_set = simp Rattle.std.proofs.lemmas.List.length-set

    by_row : (t : Bool) → nat_eq r 0 ≡ t → look_in (set (set rows 0 x) 1 y) r c ≡ look_in rows (r + n) (c + 4 - shift)
    by_row true e =
        let er = eqb-true r 0 e in
        let ne : 0 ≢ 1 = omega arith in
        let s : n ≡ r + n = omega (arith, er) in
        ap (λ (i : ℕ). look_in (set (set rows 0 x) 1 y) i c) er
        ∙ ap (λ (i : ℕ). is_dark_bit i c) (get_or-set_other (set rows 0 x) 1 0 y 0 ne
        ∙ get_or-set_same rows 0 x 0 (omega arith))
        ∙ moved_both width (get_or rows n 0) shift c lc h
        ∙ ap (λ (i : ℕ). look_in rows i (c + 4 - shift)) s
    by_row false e =
        let nz : r ≢ 0 = eqb-false r 0 e in
        let er : r ≡ 1 = omega arith in
        let ne : n + 1 ≢ 0 = omega arith in
        let s : n + 1 ≡ r + n = omega (arith, er) in
        ap (λ (i : ℕ). look_in (set (set rows 0 x) 1 y) i c) er
        ∙ ap (λ (i : ℕ). is_dark_bit i c) (get_or-set_same (set rows 0 x) 1 y 0 (omega (arith, length_set)))
        ∙ moved_both width (get_or (set rows 0 x) (n + 1) 0) shift c lc h
        ∙ ap (λ (i : ℕ). is_dark_bit i (c + 4 - shift)) (get_or-set_other rows 0 (n + 1) x 0 ne)
        ∙ ap (λ (i : ℕ). look_in rows i (c + 4 - shift)) s

-- ---- all together

-- Rows with the columns to their left and the rows above them are the widened rows of the matrix.
pub is_widened : (R C : ℕ) (look : ℕ → ℕ → Bool) (olds mids news : List ℕ) → 6 ≤ R → 6 ≤ C → IsMoved C R look olds →
    ((r c : ℕ) → look_in mids r c ≡ wrapped_left olds R C ((C + 4) % 8) (R + 2) r c) →
    ((r c : ℕ) → r < 2 → c < C + 4 → (R + 4) % 8 ≤ c + 4 →
    look_in news r c ≡ look_in mids (r + R) (c + 4 - (R + 4) % 8)) →
    ((r c : ℕ) → 2 ≤ r → look_in news r c ≡ look_in mids r c) → IsWidened R C look news
is_widened R C look olds mids news some least moved wrapped above others = record {
  inside = λ r c lr lc. others (r + 2) (c + 4) (omega arith) ∙ mid_inside r c lr lc;
  left = λ r c lo hi lc ls. others r c lo ∙ mid_left r c lo hi lc ls;
  above = λ r c lr lc ls li.
      let e : c + 4 - (R + 4) % 8 ≡ c - (R + 4) % 8 + 4 = omega arith in
      let f : r + R ≡ r + R - 2 + 2 = omega arith in
      cc (above r c lr lc (omega arith), e, f, mid_inside (r + R - 2) (c - (R + 4) % 8) (omega arith) li);
  above_left = λ r c lr lc ls.
      let e : C + (c + 4 - (R + 4) % 8) - 4 ≡ C + c - (R + 4) % 8 = omega arith in
      let m : (C + 4) % 8 < 8 = omega arith in
      let k : (R + 4) % 8 < 8 = omega arith in
      above r c lr (omega arith) ls ∙ mid_left (r + R) (c + 4 - (R + 4) % 8) (omega arith) (omega arith) (omega arith)
      (omega arith) ∙ ap (look (round R (r + R + 2 - (C + 4) % 8))) e;
}
  where
    mid_inside : (r c : ℕ) → r < R → c < C → look_in mids (r + 2) (c + 4) ≡ look r c
    mid_inside r c lr lc =
        wrapped (r + 2) (c + 4) ∙ nothing_far olds R C ((C + 4) % 8) (R + 2) (r + 2) (c + 4) moved.right (omega arith)
        ∙ moved.inside r c lr lc

    mid_left : (r c : ℕ) → 2 ≤ r → r < R + 2 → c < 4 → (C + 4) % 8 ≤ r + 2 →
        look_in mids r c ≡ look (round R (r + 2 - (C + 4) % 8)) (C + c - 4)
    mid_left r c lo hi lc ls = grind (arith, nat_tests, source, le-leb, lt-ltb, source_round, round_inside)
