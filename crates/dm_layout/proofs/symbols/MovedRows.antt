-- Rows laid over one another, which folds widened rows step by step.
use Rattle.dm_layout.proofs.Names.{nat_tests, ◌≡◌, ◌≢◌, ◌⊎◌, inl, inr, ℕ, ◌+◌, ◌-◌, ◌*◌, ◌/◌, ◌%◌, ◌^◌, ◌<◌, ◌≤◌, Bool}
use Rattle.dm_layout.proofs.Names.{true, false, ◌&&◌, ◌||◌, nat_eq, nat_le, nat_lt, List, length, get_or, set, refl}
use Rattle.dm_layout.proofs.Names.{sym, ◌∙◌, ap, arith, get_or-set_other, eq-eqb, subst, bit_or, or-false, mod-eq_of_lt}
use Rattle.dm_layout.proofs.Names.{pow_pos, eqb-true, eqb-false, lt-ltb, le-ltb, lt-leb, le-leb, ltb-true, and_parts}
use Rattle.dm_layout.proofs.Names.{cases_lt, pow-add, pow_below, mul-add-lt, bit_at_above, is_dark_bit, lowered}
use Rattle.dm_layout.proofs.Names.{moved_in, folded, look_in}
use Rattle.dm_layout.proofs.symbols.Rows.{moved_bit}
use Rattle.dm_layout.proofs.symbols.WidenedRows.{put_over, bit_up, none_up, low_bit, laid_over, over_more}

-- ---- tests that agree

-- Two strict bounds that follow from one another have the same test.
lt_same : (a b x y : ℕ) → (a < b → x < y) → (b ≤ a → y ≤ x) → nat_lt a b ≡ nat_lt x y
lt_same a b x y f g = grind (arith, nat_tests, cases_lt, lt-ltb, le-ltb)

-- ---- the rows above the matrix

-- A row that is moved to the right by 4 - s columns has its bit c + s - 4 at column c, if there is one.
pub moved_right : (width x s c : ℕ) → s ≤ 4 → c < width →
    is_dark_bit (x * 2 ^ (4 - s) % 2 ^ width) c ≡ (nat_le 4 (c + s) && is_dark_bit x (c + s - 4))
moved_right width x s c small l = low_bit (x * 2 ^ (4 - s)) width c l ∙ by_column (cases_lt (c + s) 4)
  where
    by_column : (c + s < 4) ⊎ (4 ≤ c + s) → is_dark_bit (x * 2 ^ (4 - s)) c ≡
        (nat_le 4 (c + s) && is_dark_bit x (c + s - 4))
    by_column (inl h) =
        none_up x (4 - s) c (omega (arith, h)) ∙ ap (λ (t : Bool). t && is_dark_bit x (c + s - 4))
        (sym (lt-leb 4 (c + s) h))
    by_column (inr h) =
        let e : c ≡ 4 - s + (c + s - 4) = omega (arith, h, small) in
        cc (e, bit_up x (4 - s) (c + s - 4), le-leb 4 (c + s) h)

-- So has one that is moved to the left by s - 4 columns.
pub moved_left : (x s c : ℕ) → 4 < s → is_dark_bit (x / 2 ^ (s - 4)) c ≡ (nat_le 4 (c + s) && is_dark_bit x (c + s - 4))
moved_left x s c large = grind (arith, nat_tests, moved_bit, le-leb)

-- What holds of one row over which another is laid.
pub record IsOver (olds news : List ℕ) (width row from shift : ℕ) : Type 0 where
  pub others : (r c : ℕ) → r ≢ row → look_in news r c ≡ look_in olds r c
  pub cells : (c : ℕ) → c < width → look_in news row c ≡
      (look_in olds row c || (nat_le 4 (c + shift) && look_in olds from (c + shift - 4)))

-- It holds for a shift that is this number.
pub over_shift : (olds news : List ℕ) (width row from shift s : ℕ) → shift ≡ s →
    ((r c : ℕ) → r ≢ row → look_in news r c ≡ look_in olds r c) →
    ((c : ℕ) → c < width → look_in news row c ≡
    (look_in olds row c || (nat_le 4 (c + shift) && look_in olds from (c + shift - 4)))) →
    IsOver olds news width row from s
over_shift olds news width row from shift s e others cells =
    subst (λ (i : ℕ). IsOver olds news width row from i) e (record { others = others; cells = cells })

-- A row over which another one is laid, whose bits are these, has them.
pub over_row : (olds : List ℕ) (width row from shift x : ℕ) → row < length olds →
    ((c : ℕ) → c < width → is_dark_bit x c ≡ (nat_le 4 (c + shift) && look_in olds from (c + shift - 4))) →
    IsOver olds (set olds row (bit_or (get_or olds row 0) x)) width row from shift
over_row olds width row from shift x inside bits = record {
  others = λ r c ne. ap (λ (i : ℕ). is_dark_bit i c) (get_or-set_other olds row r _ 0 ne);
  cells = λ c l.
      rw (put_over olds row x row c inside, eq-eqb row row refl, bits c l);
}

-- The two rows above the matrix, moved, are laid over its last two rows.
pub lowered_rows : (width : ℕ) (olds mids news : List ℕ) (n r c : ℕ) → 6 ≤ n → c < width →
    IsOver olds mids width n 0 ((n + 4) % 8) → IsOver mids news width (n + 1) 1 ((n + 4) % 8) →
    look_in news r c ≡ lowered n (look_in olds) r c
lowered_rows width olds mids news n r c least l first second = by_row (cases_lt r n) (cases_lt r (n + 2))
  where
    s : ℕ
    s = (n + 4) % 8

    back : ℕ → Bool
    back q = nat_le 4 (c + s) && look_in olds q (c + s - 4)

    outside : (r ≡ n → ⊥) → (r ≡ n + 1 → ⊥) → (nat_le n r && nat_lt r (n + 2)) ≡ false →
        look_in news r c ≡ lowered n (look_in olds) r c
    outside ne nf g =
        rw (second.others, first.others, g, or-false)

    tests : n ≤ r → r < n + 2 → (look_in olds r c || back (r - n)) ≡ lowered n (look_in olds) r c
    tests h k =
        rw (le-leb n r h, lt-ltb r (n + 2) k)

    by_row : (r < n) ⊎ (n ≤ r) → (r < n + 2) ⊎ (n + 2 ≤ r) → look_in news r c ≡ lowered n (look_in olds) r c
    by_row (inl h) k =
        outside (λ e. omega (arith, e, h)) (λ e. omega (arith, e, h))
        (ap (λ (t : Bool). t && nat_lt r (n + 2)) (lt-leb n r h))
    by_row (inr h) (inr k) =
        outside (λ e. omega (arith, e, k)) (λ e. omega (arith, e, k))
        (ap (λ (t : Bool). t && nat_lt r (n + 2)) (le-leb n r h) ∙ le-ltb r (n + 2) k)
    by_row (inr h) (inl k) = by_test (nat_eq r n) refl
      where
        by_test : (t : Bool) → nat_eq r n ≡ t → look_in news r c ≡ lowered n (look_in olds) r c
        by_test true e =
            let er = eqb-true r n e in
            let z : 0 ≡ r - n = omega (arith, er) in
            second.others r c (λ f. omega (arith, f, er))
            ∙ ap (λ (i : ℕ). look_in mids i c) er ∙ first.cells c l
            ∙ ap (λ (i : ℕ). look_in olds i c || back 0) (sym er)
            ∙ ap (λ (q : ℕ). look_in olds r c || back q) z ∙ tests h k
        by_test false e =
            let ne = eqb-false r n e in
            let er : r ≡ n + 1 = omega (arith, ne, h, k) in
            let z : 1 ≡ r - n = omega (arith, er) in
            ap (λ (i : ℕ). look_in news i c) er ∙ second.cells c l
            ∙ ap (λ (t : Bool). t || (nat_le 4 (c + s) && look_in mids 1 (c + s - 4)))
            (first.others (n + 1) c (λ f. omega (arith, f)))
            ∙ ap (λ (t : Bool). look_in olds (n + 1) c || (nat_le 4 (c + s) && t))
            (first.others 1 (c + s - 4) (λ f. omega (arith, f, least)))
            ∙ ap (λ (i : ℕ). look_in olds i c || back 1) (sym er)
            ∙ ap (λ (q : ℕ). look_in olds r c || back q) z ∙ tests h k

-- ---- the columns left of the matrix

-- The lowest four bits of a row, moved to the left by n columns, are its columns from n on.
lowest_up : (width x n c : ℕ) → n + 4 < width → is_dark_bit (x % 16 * 2 ^ n % 2 ^ width) c ≡
    ((nat_le n c && nat_lt c (n + 4)) && is_dark_bit x (c - n))
lowest_up width x n c most =
    ap (λ (i : ℕ). is_dark_bit i c) (mod-eq_of_lt fits) ∙ by_column (cases_lt c n) (cases_lt c (n + 4))
  where
    small : x % 16 < 2 ^ 4
    small = omega arith

    fits : x % 16 * 2 ^ n < 2 ^ width
    fits = grind (arith, nat_tests, mul-add-lt, small, pow_pos, pow-add, width, pow_below, most)

    by_column : (c < n) ⊎ (n ≤ c) → (c < n + 4) ⊎ (n + 4 ≤ c) →
        is_dark_bit (x % 16 * 2 ^ n) c ≡ ((nat_le n c && nat_lt c (n + 4)) && is_dark_bit x (c - n))
    by_column (inl h) k =
        none_up (x % 16) n c h ∙ sym (ap (λ (t : Bool). (t && nat_lt c (n + 4)) && is_dark_bit x (c - n)) (lt-leb n c
        h))
    by_column (inr h) (inl k) =
        let e : c ≡ n + (c - n) = omega (arith, h) in
        ap (is_dark_bit (x % 16 * 2 ^ n)) e ∙ bit_up (x % 16) n (c - n) ∙ low_bit x 4 (c - n) (omega (arith, k, h))
        ∙ sym (ap (λ (t : Bool). (t && nat_lt c (n + 4)) && is_dark_bit x (c - n)) (le-leb n c h)
        ∙ ap (λ (t : Bool). t && is_dark_bit x (c - n)) (lt-ltb c (n + 4) k))
    by_column (inr h) (inr k) =
        let e : c ≡ n + (c - n) = omega (arith, h) in
        ap (is_dark_bit (x % 16 * 2 ^ n)) e ∙ bit_up (x % 16) n (c - n)
        ∙ ap (λ (i : ℕ). nat_eq i 1) (bit_at_above (x % 16) 4 (c - n) small (omega (arith, k)))
        ∙ sym (ap (λ (t : Bool). (t && nat_lt c (n + 4)) && is_dark_bit x (c - n)) (le-leb n c h)
        ∙ ap (λ (t : Bool). t && is_dark_bit x (c - n)) (le-ltb c (n + 4) k))

-- The rows into which the columns left of the matrix, of the rows above `until`, are moved.
abbrev pub moved_down : List ℕ → ℕ → ℕ → ℕ → ℕ → ℕ → Bool
moved_down rows n shift until r c =
    look_in rows r c || ((nat_le n c && nat_lt c (n + 4))
    && ((nat_le 8 (r + shift) && nat_lt (r + shift) (until + 4)) && look_in rows (r + shift - 4) (c - n)))

-- Before row 4 no columns are moved.
pub moved_none : (rows : List ℕ) (n shift r c : ℕ) → look_in rows r c ≡ moved_down rows n shift 4 r c
moved_none rows n shift r c = grind (arith, nat_tests, cases_lt, lt-leb, le-ltb, nat_tests)

-- When the columns of one more row are moved, those of the rows above the next are moved.
pub move_more : (width : ℕ) (olds rows : List ℕ) (n shift row : ℕ) → 6 ≤ n → n + 4 < width → shift ≤ 7 → 4 ≤ row →
    row + 4 - shift < length rows → ((r c : ℕ) → look_in rows r c ≡ moved_down olds n shift row r c) →
    (r c : ℕ) → look_in (set rows (row + 4 - shift)
    (bit_or (get_or rows (row + 4 - shift) 0) (get_or rows row 0 % 16 * 2 ^ n % 2 ^ width))) r c ≡
    moved_down olds n shift (row + 1) r c
move_more width olds rows n shift row least most small from inside so_far r c =
    rw (put_over, lowest_up, near, so_far, by_row)
  where
    q : ℕ
    q = row + 4 - shift

    here : Bool
    here = nat_le n c && nat_lt c (n + 4)

    -- The columns left of the matrix in this row are still those of before.
    near : (t : Bool) → (nat_le n c && nat_lt c (n + 4)) ≡ t →
        (t && look_in rows row (c - n)) ≡ (t && look_in olds row (c - n))
    near false e = refl
    near true e =
        let both = and_parts (nat_le n c) (nat_lt c (n + 4)) e in
        let k = ltb-true c (n + 4) both.1 in
        rw (so_far row (c - n), lt-leb n (c - n) (omega (arith, k, least)), or-false (look_in olds row (c - n)))

    source : ℕ → Bool
    source until = nat_le 8 (r + shift) && nat_lt (r + shift) (until + 4)

    put : (a t p : Bool) → ((a || (t && (false && p))) || (true && (t && p))) ≡ (a || (t && (true && p)))
    put x t p = grind (arith, nat_tests)

    by_row : (t : Bool) → nat_eq r q ≡ t → (moved_down olds n shift row r c
        || (t && (here && look_in olds row (c - n)))) ≡ moved_down olds n shift (row + 1) r c
    by_row true e =
        let er = eqb-true r q e in
        let sum : r + shift ≡ row + 4 = omega (arith, er, small, from) in
        let no : source row ≡ false =
        rw (le-leb 8 (r + shift) (omega (arith, sum, from)), le-ltb (r + shift) (row + 4) (omega (arith, sum))) in
        let yes : source (row + 1) ≡ true =
        rw (le-leb 8 (r + shift) (omega (arith, sum, from)), lt-ltb (r + shift) (row + 1 + 4) (omega (arith, sum))) in
        let there : row ≡ r + shift - 4 = omega (arith, sum) in
        ap (λ (t : Bool). (look_in olds r c || (here && (t && look_in olds (r + shift - 4) (c - n))))
        || (true && (here && look_in olds row (c - n)))) no
        ∙ ap (λ (i : ℕ). (look_in olds r c || (here && (false && look_in olds (r + shift - 4) (c - n))))
        || (true && (here && look_in olds i (c - n)))) there
        ∙ put (look_in olds r c) here (look_in olds (r + shift - 4) (c - n))
        ∙ ap (λ (t : Bool). look_in olds r c || (here && (t && look_in olds (r + shift - 4) (c - n)))) (sym yes)
    by_row false e =
        let ne = eqb-false r q e in
        or-false (moved_down olds n shift row r c)
        ∙ ap (λ (t : Bool). look_in olds r c || (here
        && ((nat_le 8 (r + shift) && t) && look_in olds (r + shift - 4) (c - n))))
        (lt_same (r + shift) (row + 4) (r + shift) (row + 1 + 4) (λ h. omega (arith, h))
        (λ h. omega (arith, h, ne, small, from)))

-- ---- the rows below the matrix

-- When one more of the rows below the matrix is laid over one of its first rows, those above the next are.
pub raise_more : (olds rows : List ℕ) (R row : ℕ) → 6 ≤ R → row < 4 → row + 2 < length rows →
    ((r c : ℕ) → look_in rows r c ≡ laid_over olds (λ r. look_in olds (r + R)) (row + 2) r c) →
    (r c : ℕ) → look_in (set rows (row + 2) (bit_or (get_or rows (row + 2) 0) (get_or rows (row + 2 + R) 0))) r c ≡
    laid_over olds (λ r. look_in olds (r + R)) (row + 1 + 2) r c
raise_more olds rows R row some few inside so_far =
    over_more olds rows (λ r. look_in olds (r + R)) row (get_or rows (row + 2 + R) 0) inside there so_far
  where
    nothing : (a b t : Bool) → (a || ((b && false) && t)) ≡ a
    nothing x b t = grind (arith, nat_tests)

    there : (c : ℕ) → look_in rows (row + 2 + R) c ≡ look_in olds (row + 2 + R) c
    there c = grind (arith, nat_tests, so_far, row, le-ltb, nothing)

-- ---- all together

-- Rows whose surroundings are laid over them, one after the other, are folded.
pub is_folded : (width R C : ℕ) (olds lows mids news : List ℕ) → C + 8 ≤ width →
    ((r c : ℕ) → c < width → look_in lows r c ≡ lowered R (look_in olds) r c) →
    ((r c : ℕ) → look_in mids r c ≡ moved_down lows C ((C + 4) % 8) (R + 2) r c) →
    ((r c : ℕ) → look_in news r c ≡ (look_in mids r c || ((nat_le 2 r && nat_lt r 6) && look_in mids (r + R) c))) →
    (r c : ℕ) → c < C → look_in news (r + 2) (c + 4) ≡ folded R C (look_in olds) r c
is_folded width R C olds lows mids news fits low moved raised r c lc =
    raised (r + 2) (c + 4)
    ∙ ap (λ (b : Bool). b || ((nat_le 2 (r + 2) && nat_lt (r + 2) 6) && look_in mids (r + 2 + R) (c + 4)))
    (in_place (r + 2) (c + 4) (omega (arith, lc, fits)))
    ∙ ap (λ (b : Bool). moved_in R C (look_in olds) (r + 2) (c + 4) || ((nat_le 2 (r + 2) && nat_lt (r + 2) 6) && b))
    (in_place (r + 2 + R) (c + 4) (omega (arith, lc, fits)))
  where
    in_place : (i j : ℕ) → j < width → look_in mids i j ≡ moved_in R C (look_in olds) i j
    in_place i j l =
        rw (moved i j, low i j l, low (i + (C + 4) % 8 - 4) (j - C) (omega (arith, l)))
