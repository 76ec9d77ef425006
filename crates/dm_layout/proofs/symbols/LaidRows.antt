-- Rows of slots that are scattered into widened rows.
use Rattle.dm_layout.proofs.Names.{nat_tests, ◌≡◌, ◌⊎◌, inl, inr, ℕ, ◌+◌, ◌-◌, ◌*◌, ◌/◌, ◌%◌, ◌^◌, ◌<◌, ◌≤◌, Bool, true}
use Rattle.dm_layout.proofs.Names.{false, ◌&&◌, ◌||◌, nat_eq, nat_le, nat_lt, List, length, get_or, set, refl, sym, ◌∙◌}
use Rattle.dm_layout.proofs.Names.{ap, arith, bit_or, bit_and, or-false, ltb-true, eqb-true, eqb-false, ne_eqb, lt-ltb}
use Rattle.dm_layout.proofs.Names.{le-ltb, lt-leb, le-leb, cases_lt, length-set, is_dark_bit, by_anchors, scattered}
use Rattle.dm_layout.proofs.Names.{look_in, first_column}
use Rattle.std.proofs.Math.Bool.{and_comm}
use Rattle.dm_layout.specs.symbols.inner.Laying.{part_of, with_scattered}
use Rattle.dm_layout.proofs.symbols.Rows.{moved_bit}
use Rattle.dm_layout.proofs.symbols.SlotRows.{masked_up}
use Rattle.dm_layout.proofs.symbols.WidenedRows.{put_over}

-- ---- one row of slots is scattered

-- Masked bits of a number, moved to the left, darken the columns that its part darkens.
part_up : (x : ℕ) (slots : List ℕ) (q width mask low count s c : ℕ) →
    ((i : ℕ) → i < width → is_dark_bit mask i ≡ nat_lt (i % 8) count) →
    ((i : ℕ) → i < width → is_dark_bit x i ≡ look_in slots q i) → width % 8 ≡ 0 → low + count ≤ 8 → c < width →
    is_dark_bit (bit_and (x / 2 ^ low) mask * 2 ^ s % 2 ^ width) c ≡ part_of slots q s low count c
part_up x slots q width mask low count s c masked same bytes whole l =
    let z : low + (c - s) ≡ c - s + low = omega arith in
    let t : Bool = nat_lt ((c - s) % 8) count in
    masked_up width mask count (x / 2 ^ low) s c masked l
    ∙ ap (λ (d : ℕ). nat_le s c && (nat_eq d 1 && t)) (moved_bit x low (c - s))
    ∙ ap (λ (i : ℕ). nat_le s c && (is_dark_bit x i && t)) z
    ∙ ap (λ (b : Bool). nat_le s c && b) (and_comm (is_dark_bit x (c - s + low)) t)
    ∙ ap (λ (b : Bool). nat_le s c && b) (there t refl)
  where
    there : (t : Bool) → nat_lt ((c - s) % 8) count ≡ t →
        (t && is_dark_bit x (c - s + low)) ≡ (t && look_in slots q (c - s + low))
    there true e = let h = ltb-true ((c - s) % 8) count e in same (c - s + low) (omega (arith, h, bytes, whole, l))
    there false e = refl

-- The rows with one more row of slots, whose parts are laid over three of them.
abbrev pub with_row : ℕ → ℕ → ℕ → List ℕ → ℕ → ℕ → ℕ → List ℕ
with_row width two three rows row x s =
    let a : List ℕ = set rows row (bit_or (get_or rows row 0) (bit_and x two * 2 ^ s % 2 ^ width)) in
    let b : List ℕ = set a (row + 1) (bit_or (get_or a (row + 1) 0) (bit_and (x / 2 ^ 2) three * 2 ^ s % 2 ^ width)) in
    set b (row + 2) (bit_or (get_or b (row + 2) 0) (bit_and (x / 2 ^ 5) three * 2 ^ s % 2 ^ width))

pub row_scattered : (width two three : ℕ) → ((c : ℕ) → c < width →
    (is_dark_bit two c ≡ nat_lt (c % 8) 2) × (is_dark_bit three c ≡ nat_lt (c % 8) 3)) → width % 8 ≡ 0 →
    (rows slots : List ℕ) (x row s r c : ℕ) → ((i : ℕ) → i < width → is_dark_bit x i ≡ look_in slots row i) →
    row + 2 < length rows → c < width → look_in (with_row width two three rows row x s) r c ≡
    with_scattered (look_in rows r c) slots row s r c
row_scattered width two three masked bytes rows slots x row s r c same fits l =
    cc (
      put_over b (row + 2) z r c (omega (
        arith,
        fits,
        length-set rows row (bit_or (get_or rows row 0) x0),
        length-set a
            (row + 1) (bit_or (get_or a (row + 1) 0) y),
      )),
      put_over a (row + 1) y r c (omega (arith, fits, length-set rows row (bit_or (get_or rows row 0) x0))),
      put_over rows row x0 r c (omega (arith, fits)),
      whole,
      part_up x slots row width two 0 2 s c (λ i h. (masked i h).0) same bytes (omega arith) l,
      part_up x slots row width three 2 3 s c (λ i h. (masked i h).1) same bytes (omega arith) l,
      part_up x slots row width three 5 3 s c (λ i h. (masked i h).1) same bytes (omega arith) l,
    )
  where
    x0 : ℕ
    x0 = bit_and x two * 2 ^ s % 2 ^ width

    y : ℕ
    y = bit_and (x / 2 ^ 2) three * 2 ^ s % 2 ^ width

    z : ℕ
    z = bit_and (x / 2 ^ 5) three * 2 ^ s % 2 ^ width

    a : List ℕ
    a = set rows row (bit_or (get_or rows row 0) x0)

    b : List ℕ
    b = set a (row + 1) (bit_or (get_or a (row + 1) 0) y)

    whole : x ≡ x / 2 ^ 0
    whole = let o : x / 1 ≡ x = omega arith in sym o

-- A row lies among the first n + 1 exactly if it lies among the first n or is the next.
pub one_further : (up n r : ℕ) (part : ℕ → Bool) →
    (nat_le up r && (nat_lt (r - up) (n + 1) && part (r - up))) ≡
    ((nat_le up r && (nat_lt (r - up) n && part (r - up))) || (nat_eq r (n + up) && part n))
one_further up n r part = by_place (cases_lt r up)
  where
    same : (t : Bool) → nat_lt (r - up) (n + 1) ≡ t → nat_lt (r - up) n ≡ t → nat_eq r (n + up) ≡ false →
        (nat_le up r && (nat_lt (r - up) (n + 1) && part (r - up))) ≡
        ((nat_le up r && (nat_lt (r - up) n && part (r - up))) || (nat_eq r (n + up) && part n))
    same t e f g =
        cc (e, f, or-false (nat_le up r && (nat_lt (r - up) n && part (r - up))), g)

    by_row : up ≤ r → (r - up < n) ⊎ (n ≤ r - up) →
        (nat_le up r && (nat_lt (r - up) (n + 1) && part (r - up))) ≡
        ((nat_le up r && (nat_lt (r - up) n && part (r - up))) || (nat_eq r (n + up) && part n))
    by_row h (inl k) =
        same true (lt-ltb (r - up) (n + 1) (omega (arith, k))) (lt-ltb (r - up) n k)
        (ne_eqb r (n + up) (λ e. omega (arith, e, k, h)))
    by_row h (inr k) = by_test (nat_eq r (n + up)) refl
      where
        by_test : (t : Bool) → nat_eq r (n + up) ≡ t →
            (nat_le up r && (nat_lt (r - up) (n + 1) && part (r - up))) ≡
            ((nat_le up r && (nat_lt (r - up) n && part (r - up))) || (nat_eq r (n + up) && part n))
        by_test false e =
            let ne = eqb-false r (n + up) e in
            same false (le-ltb (r - up) (n + 1) (omega (arith, k, ne, h))) (le-ltb (r - up) n k) e
        by_test true e =
            let er = eqb-true r (n + up) e in
            let here : r - up ≡ n = omega (arith, er) in
            ap (λ (b : Bool). b && (nat_lt (r - up) (n + 1) && part (r - up))) (le-leb up r h)
            ∙ ap (λ (b : Bool). b && part (r - up)) (lt-ltb (r - up) (n + 1) (omega (arith, here)))
            ∙ ap part here
            ∙ sym (ap (λ (b : Bool). (nat_le up r && (b && part (r - up))) || (nat_eq r (n + up) && part n))
            (le-ltb (r - up) n k) ∙ none (nat_le up r) (nat_eq r (n + up) && part n)
            ∙ ap (λ (b : Bool). b && part n) e)
          where
            none : (a b : Bool) → ((a && false) || b) ≡ b
            none true b = refl
            none false b = refl

    by_place : (r < up) ⊎ (up ≤ r) → (nat_le up r && (nat_lt (r - up) (n + 1) && part (r - up))) ≡
        ((nat_le up r && (nat_lt (r - up) n && part (r - up))) || (nat_eq r (n + up) && part n))
    by_place x = grind (arith, nat_tests, part, lt-leb, ne_eqb, by_row, cases_lt)

-- Three parts laid over three rows may be grouped row by row.
all_six : (a b d x y z : Bool) → (((a || (b || d)) || x) || y) || z ≡ ((a || x) || ((b || y) || (d || z)))
all_six x b d y z w = grind (arith, nat_tests)

-- Before the first row of slots nothing is scattered.
pub scattered_none : (rows slots : List ℕ) → ((r c : ℕ) → look_in rows r c ≡ false) → (r c : ℕ) →
    look_in rows r c ≡ scattered 0 slots r c
scattered_none rows slots light r c =
    rw (
      light r c,
      le-ltb r 0 (omega arith),
      le-ltb (r - 1) 0 (omega arith),
      le-ltb (r - 2) 0 (omega arith),
      none (nat_le 1 r) (nat_le 2 r),
    )
  where
    part : ℕ → ℕ → ℕ → Bool
    part q low count = part_of slots q (first_column q) low count c

    none : (a b : Bool) → ((a && false) || (b && false)) ≡ false
    none x y = grind (arith, nat_tests)

-- Laying the three parts of one more row of slots over the rows scatters that row too.
pub scatter_more : (slots : List ℕ) (row r c : ℕ) →
    with_scattered (scattered row slots r c) slots row (first_column row) r c ≡ scattered (row + 1) slots r c
scatter_more slots row r c =
    all_six (by_anchors row slots r 0 2 c) (nat_le 1 r && by_anchors row slots (r - 1) 2 3 c)
    (nat_le 2 r && by_anchors row slots (r - 2) 5 3 c) (nat_eq r row && here 0 2) (nat_eq r (row + 1) && here 2 3)
    (nat_eq r (row + 2) && here 5 3)
    ∙ sym (ap (λ (t : Bool). t || ((nat_le 1 r && by_anchors (row + 1) slots (r - 1) 2 3 c)
    || (nat_le 2 r && by_anchors (row + 1) slots (r - 2) 5 3 c))) first_part
    ∙ ap (λ (t : Bool). (by_anchors row slots r 0 2 c || (nat_eq r row && here 0 2))
    || (t || (nat_le 2 r && by_anchors (row + 1) slots (r - 2) 5 3 c))) (one_further 1 row r (there 2 3))
    ∙ ap (λ (t : Bool). (by_anchors row slots r 0 2 c || (nat_eq r row && here 0 2))
    || (((nat_le 1 r && by_anchors row slots (r - 1) 2 3 c) || (nat_eq r (row + 1) && here 2 3)) || t))
    (one_further 2 row r (there 5 3)))
  where
    there : ℕ → ℕ → ℕ → Bool
    there low count q = part_of slots q (first_column q) low count c

    here : ℕ → ℕ → Bool
    here low count = there low count row

    first_part : by_anchors (row + 1) slots r 0 2 c ≡ (by_anchors row slots r 0 2 c || (nat_eq r row && here 0 2))
    first_part = grind (arith, nat_tests, row, le-leb, one_further, there)
