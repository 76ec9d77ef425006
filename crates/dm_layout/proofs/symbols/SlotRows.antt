-- The codewords of a row as the bytes of one number.
use Rattle.dm_layout.proofs.Names.{nat_tests, ◌≡◌, ◌≢◌, ◌⊎◌, inl, inr, ℕ, zero, suc, ◌+◌, ◌-◌, ◌*◌, ◌/◌, ◌%◌, ◌^◌, ◌<◌}
use Rattle.dm_layout.proofs.Names.{◌≤◌, Bool, true, false, ◌&&◌, ◌||◌, nat_eq, nat_le, nat_lt, List, [], ◌∷◌, length}
use Rattle.dm_layout.proofs.Names.{get_or, set, refl, sym, ◌∙◌, ap, arith, subst, below_more, get_or-set_same}
use Rattle.dm_layout.proofs.Names.{get_or-set_other, bit_and, or-false, mul-div_cancel_left, mul-mod_right, beq}
use Rattle.dm_layout.proofs.Names.{booleans_Decides, min, bit_at, bit_or, list_all, range_with_len, eqb-true, and_parts}
use Rattle.dm_layout.proofs.Names.{lt-ltb, le-ltb, le-leb, lt-leb, cases_lt, bit_at_and, bit_at-lt, is_dark_bit}
use Rattle.dm_layout.proofs.Names.{look_in, with_byte, reversed_bits, LOW_TWO_BITS, LOW_THREE_BITS, NARROW_LOW_TWO_BITS}
use Rattle.dm_layout.proofs.Names.{NARROW_LOW_THREE_BITS, all_below, cells_of, Corner1, Corner2, Corner3, Corner4}
use Rattle.dm_layout.proofs.Names.{IsJoined, HasSlots, first_column, slot_byte}
use Rattle.std.specs.Int.Bits.{or_zero_l}
use Rattle.dm_layout.specs.symbols.inner.Slots.{is_joined, AreJoined, word_in}
use Rattle.dm_layout.specs.declared.symbols.slots.TheConstants.{REVERSED}
use Rattle.dm_layout.proofs.symbols.Rows.{or_dark, moved_bit}
use Rattle.dm_layout.proofs.symbols.WidenedRows.{bit_up, none_up, low_bit}

-- ---- bytes with their bits in the opposite order

-- The numbers of the list are those of a function from place n on.
unfoldable table_test : (ℕ → ℕ) → ℕ → List ℕ → Bool
table_test f n [] = true
table_test f n (y ∷ ys) = nat_eq y (f n) && table_test f (suc n) ys

-- Where a list passes the test of its numbers, each place holds its own.
table_at : (f : ℕ → ℕ) (n i : ℕ) (t : List ℕ) → table_test f n t ≡ true → i < length t → get_or t i 0 ≡ f (n + i)
unfolding table_test
table_at f n i [] h l = absurd (omega arith)
table_at f n zero (y ∷ ys) h l =
    let z : n ≡ n + 0 = omega arith in
    eqb-true y (f n) (and_parts (nat_eq y (f n)) (table_test f (suc n) ys) h).0 ∙ ap f z
table_at f n (suc i) (y ∷ ys) h l =
    let z : suc n + i ≡ n + suc i = omega arith in
    table_at f (suc n) i ys (and_parts (nat_eq y (f n)) (table_test f (suc n) ys) h).1 (omega arith) ∙ ap f z

reversed_test : table_test reversed_bits 0 REVERSED ≡ true
unfolding table_test
reversed_test = refl

reversed_length : length REVERSED ≡ 256
reversed_length = refl

-- The table has each byte with its bits in the opposite order.
pub reversed_in_table : (x : ℕ) → x < 256 → get_or REVERSED x 0 ≡ reversed_bits x
reversed_in_table x l =
    let z : 0 + x ≡ x = omega arith in
    table_at reversed_bits 0 x REVERSED reversed_test (omega (arith, reversed_length, l)) ∙ ap reversed_bits z

-- A test of all bytes, computed by the checker: reversed twice, each is itself again.
twice_test : list_all (λ x. nat_eq (reversed_bits (reversed_bits x)) x) (range_with_len 0 256) ≡ true
twice_test = refl

pub reversed_twice : (x : ℕ) → x < 256 → reversed_bits (reversed_bits x) ≡ x
reversed_twice x l = grind (arith, nat_tests, eqb-true, all_below, twice_test)

-- ---- three rows in one

-- The smaller of two binary digits is 1 exactly if both are.
min_one : (x y : ℕ) → x < 2 → y < 2 → nat_eq (min x y) 1 ≡ (nat_eq x 1 && nat_eq y 1)
min_one x y lx ly = grind (arith, nat_tests)

-- A cell of a masked row is dark exactly if it is dark in the row and in the mask.
pub and_dark : (a b c : ℕ) → is_dark_bit (bit_and a b) c ≡ (is_dark_bit a c && is_dark_bit b c)
and_dark a b c =
    ap (λ (i : ℕ). nat_eq i 1) (bit_at_and a b c) ∙ min_one (bit_at a c) (bit_at b c) (bit_at-lt a c) (bit_at-lt b c)

-- Of so many columns, two masks have the lowest two and the lowest three bits of each byte.
abbrev pub AreMasks : ℕ → ℕ → ℕ → Type 0
AreMasks two three width =
    (c : ℕ) → c < width → (is_dark_bit two c ≡ nat_lt (c % 8) 2) × (is_dark_bit three c ≡ nat_lt (c % 8) 3)

-- Masks that pass a test of each column are so, as the checker computes of those of 128 and of 64 columns.
masks_by : (two three width : ℕ) → list_all (λ c. beq (is_dark_bit two c) (nat_lt (c % 8) 2)
    && beq (is_dark_bit three c) (nat_lt (c % 8) 3)) (range_with_len 0 width) ≡ true → AreMasks two three width
masks_by two three width tested c l =
    let both = and_parts _ _ (all_below _ width c tested l) in
    ((booleans_Decides _ _).0 both.0, (booleans_Decides _ _).0 both.1)

pub masks_at : AreMasks LOW_TWO_BITS LOW_THREE_BITS 128
masks_at = masks_by LOW_TWO_BITS LOW_THREE_BITS 128 refl

pub narrow_masks_at : AreMasks NARROW_LOW_TWO_BITS NARROW_LOW_THREE_BITS 64
narrow_masks_at = masks_by NARROW_LOW_TWO_BITS NARROW_LOW_THREE_BITS 64 refl

-- A masked row, moved to the left, is dark where the row is at the lowest three bits of a byte.
pub masked_up : (width mask count b s c : ℕ) → ((i : ℕ) → i < width → is_dark_bit mask i ≡ nat_lt (i % 8) count) →
    c < width →
    is_dark_bit (bit_and b mask * 2 ^ s % 2 ^ width) c ≡
    (nat_le s c && (is_dark_bit b (c - s) && nat_lt ((c - s) % 8) count))
masked_up width mask count b s c masked l = low_bit (x * 2 ^ s) width c l ∙ by_column (cases_lt c s)
  where
    x : ℕ
    x = bit_and b mask

    by_column : (c < s) ⊎ (s ≤ c) → is_dark_bit (x * 2 ^ s) c ≡
        (nat_le s c && (is_dark_bit b (c - s) && nat_lt ((c - s) % 8) count))
    by_column (inl h) =
        none_up x s c h ∙ ap (λ (t : Bool). t && (is_dark_bit b (c - s) && nat_lt ((c - s) % 8) count))
        (sym (lt-leb s c h))
    by_column (inr h) =
        let e : c ≡ s + (c - s) = omega arith in
        cc (e, bit_up x s (c - s), and_dark b mask (c - s), masked (c - s) (omega arith), le-leb s c h)

-- What follows is about numbers of some width, with masks of the lowest two and of the lowest three bits of each byte.
module _ (width two three : ℕ) (masked : AreMasks two three width) where
  -- Three masked rows, each moved to its place in the bytes, are joined in one.
  pub joined_in : (a b d c : ℕ) → c < width → is_dark_bit
      (bit_or (bit_or (bit_and a two) (bit_and b three * 4 % 2 ^ width)) (bit_and d three * 32 % 2 ^ width)) c ≡
      is_joined a b d c
  joined_in a b d c l = grind (arith, nat_tests, or_dark, bit_and, three, width, and_dark, masked, masked_up)

-- ---- the bytes of a row

-- A part that doesn't reach a bit adds nothing to it.
other_row : (x : Bool) (c s : ℕ) → (s ≤ c → 3 ≤ (c - s) % 8) → (nat_le s c && (x && nat_lt ((c - s) % 8) 3)) ≡ false
other_row x c s far = grind (arith, nat_tests, cases_lt, nat_tests, lt-leb, le-ltb)

-- The part that reaches a bit gives it its own.
this_row : (x : Bool) (c s : ℕ) → s ≤ c → (c - s) % 8 < 3 → (nat_le s c && (x && nat_lt ((c - s) % 8) 3)) ≡ x
this_row x c s h l = grind (arith, nat_tests, le-leb, lt-ltb)

-- Of three parts, the two that are false add nothing to the first.
only_first : (x a b : Bool) → a ≡ false → b ≡ false → (((x && true) || a) || b) ≡ x
only_first true a b e f = refl
only_first false a b e f = cc

only_second : (x y a b : Bool) → a ≡ false → y ≡ x → b ≡ false → ((a || y) || b) ≡ x
only_second x y a b e f g = ap (λ (t : Bool). (t || y) || b) e ∙ ap (λ (t : Bool). y || t) g ∙ or-false y ∙ f

only_third : (x y a b : Bool) → a ≡ false → b ≡ false → y ≡ x → ((a || b) || y) ≡ x
only_third x y a b e f g = ap (λ (t : Bool). (t || b) || y) e ∙ ap (λ (t : Bool). t || y) f ∙ g

-- Where the test of a bit's place fails there is no bit.
masked_off : (x : Bool) (c : ℕ) → 2 ≤ c % 8 → (x && nat_lt (c % 8) 2) ≡ false
masked_off x c l = grind (arith, nat_tests, le-ltb)

-- The bytes of three rows that are joined in one are the codewords of the anchors of a row.
pub are_joined : (n width : ℕ) (rows : List ℕ) (r x : ℕ) → n + 8 ≤ width →
    ((c : ℕ) → c < width → is_dark_bit x c ≡ is_joined (get_or rows r 0 / 2 ^ first_column r)
    (get_or rows (r + 1) 0 / 2 ^ first_column r) (get_or rows (r + 2) 0 / 2 ^ first_column r) c) →
    IsJoined n rows r x
are_joined n width rows r x wide bits = record {
  first = λ k t lk lt.
      let c : ℕ = 8 * k + t in
      let m : c % 8 < 2 = omega arith in
      byte k t (omega arith) ∙ bits c (omega arith)
      ∙ ap (λ (b : Bool). ((is_dark_bit (row r) c && b)
      || (nat_le 2 c && (is_dark_bit (row (r + 1)) (c - 2) && nat_lt ((c - 2) % 8) 3)))
      || (nat_le 5 c && (is_dark_bit (row (r + 2)) (c - 5) && nat_lt ((c - 5) % 8) 3))) (lt-ltb (c % 8) 2 m)
      ∙ only_first (is_dark_bit (row r) c) _ _ (other_row (is_dark_bit (row (r + 1)) (c - 2)) c 2 (λ h. omega arith))
      (other_row (is_dark_bit (row (r + 2)) (c - 5)) c 5 (λ h. omega arith))
      ∙ there r c;
  second = λ k t lk lt.
      let c : ℕ = 8 * k + (2 + t) in
      let e : c - 2 ≡ 8 * k + t = omega arith in
      byte k (2 + t) (omega arith) ∙ bits c (omega arith)
      ∙ only_second (is_dark_bit (row (r + 1)) (c - 2)) _ _ _ (masked_off (is_dark_bit (row r) c) c (omega arith))
      (this_row (is_dark_bit (row (r + 1)) (c - 2)) c 2 (omega arith) (omega arith))
      (other_row (is_dark_bit (row (r + 2)) (c - 5)) c 5 (λ h. omega arith))
      ∙ ap (is_dark_bit (row (r + 1))) e ∙ there (r + 1) (8 * k + t);
  third = λ k t lk lt.
      let c : ℕ = 8 * k + (5 + t) in
      let e : c - 5 ≡ 8 * k + t = omega arith in
      byte k (5 + t) (omega arith) ∙ bits c (omega arith)
      ∙ only_third (is_dark_bit (row (r + 2)) (c - 5)) _ _ _ (masked_off (is_dark_bit (row r) c) c (omega arith))
      (other_row (is_dark_bit (row (r + 1)) (c - 2)) c 2 (λ h. omega arith))
      (this_row (is_dark_bit (row (r + 2)) (c - 5)) c 5 (omega arith) (omega arith))
      ∙ ap (is_dark_bit (row (r + 2))) e ∙ there (r + 2) (8 * k + t);
}
  where
    row : ℕ → ℕ
    row q = get_or rows q 0 / 2 ^ first_column r

    there : (q c : ℕ) → is_dark_bit (row q) c ≡ look_in rows q (first_column r + c)
    there q c = ap (λ (d : ℕ). nat_eq d 1) (moved_bit (get_or rows q 0) (first_column r) c)

    byte : (k t : ℕ) → t < 8 → is_dark_bit (x / 2 ^ (8 * k) % 256) t ≡ is_dark_bit x (8 * k + t)
    byte k t h = low_bit (x / 2 ^ (8 * k)) 8 t h ∙ ap (λ (i : ℕ). nat_eq i 1) (moved_bit x (8 * k) t)

-- When one more row is joined, the rows above the next are joined.
pub join_more : (n width : ℕ) (rows slots news : List ℕ) (row : ℕ) → n + 8 ≤ width →
    ((r : ℕ) → r ≢ row → get_or news r 0 ≡ get_or slots r 0) →
    ((c : ℕ) → c < width → is_dark_bit (get_or news row 0) c ≡ is_joined (get_or rows row 0 / 2 ^ first_column row)
    (get_or rows (row + 1) 0 / 2 ^ first_column row) (get_or rows (row + 2) 0 / 2 ^ first_column row) c) →
    ((r : ℕ) → r < row → IsJoined n rows r (get_or slots r 0)) → (r : ℕ) → r < row + 1 →
    IsJoined n rows r (get_or news r 0)
join_more n width rows slots news row wide others bits so_far =
    below_more (λ r. IsJoined n rows r (get_or news r 0)) row before here
  where
    before : (r : ℕ) → r < row → IsJoined n rows r (get_or news r 0)
    before r l =
        let ne : r ≢ row = omega arith in
        subst (λ (y : ℕ). IsJoined n rows r y) (sym (others r ne)) (so_far r l)

    here : IsJoined n rows row (get_or news row 0)
    here = are_joined n width rows row (get_or news row 0) wide bits

-- The slot of a corner has the lowest byte of the row behind all others.
pub corner_slot_is : (bytes most : ℕ) (rows : List ℕ) → 0 < bytes →
    slot_byte bytes rows (bytes * most) ≡ get_or rows most 0 % 256
corner_slot_is bytes most rows some =
    let one : get_or rows most 0 / 1 ≡ get_or rows most 0 = omega arith in
    rw (mul-div_cancel_left, mul-mod_right, one)

-- What is joined for so many columns is so for fewer.
fewer_joined : (C D : ℕ) (rows : List ℕ) (r x : ℕ) → C ≤ D → IsJoined D rows r x → IsJoined C rows r x
fewer_joined C D rows r x l joined = record {
  first = λ k t lk lt. joined.first k t (omega (arith, l, lk)) lt;
  second = λ k t lk lt. joined.second k t (omega (arith, l, lk)) lt;
  third = λ k t lk lt. joined.third k t (omega (arith, l, lk)) lt;
}

-- Joined rows, with the codeword of a corner put behind them, have the slots of all codewords.
pub corner_beside : (bytes most R C : ℕ) (rows joined news : List ℕ) (b w : ℕ) → 0 < bytes → R ≤ most → C ≤ most →
    most < length joined → get_or joined most 0 ≡ 0 → news ≡ with_byte bytes joined (bytes * most) b → b < 256 →
    b ≡ reversed_bits w → w < 256 →
    AreJoined R most rows joined →
    (R % 8 ≡ 4 → C % 8 ≡ 4 → w ≡ word_in rows (cells_of R C Corner1)) →
    (R % 8 ≡ 6 → C % 8 ≡ 6 → w ≡ word_in rows (cells_of R C Corner2)) →
    (R % 8 ≡ 6 → C % 8 ≡ 4 → w ≡ word_in rows (cells_of R C Corner3)) →
    (R % 8 ≡ 6 → C % 8 ≡ 0 → w ≡ word_in rows (cells_of R C Corner4)) →
    HasSlots most R C rows news
corner_beside bytes most R C rows joined news b w some within fewer room light is fits e small anchors first second
    third
    fourth =
    record {
      anchors = λ r l.
          let ne : r ≢ most = omega (arith, l, within) in
          fewer_joined C most rows r (get_or news r 0) fewer
          (subst (λ (x : ℕ). IsJoined most rows r x) (sym (rw (put, get_or-set_other))) (anchors r l));
      corner1 = λ h k. corner ∙ first h k;
      corner2 = λ h k. corner ∙ second h k;
      corner3 = λ h k. corner ∙ third h k;
      corner4 = λ h k. corner ∙ fourth h k;
    }
  where
    row : bytes * most / bytes ≡ most
    row = mul-div_cancel_left most some

    place : bytes * most % bytes ≡ 0
    place = mul-mod_right bytes most

    put : news ≡ set joined most b
    put =
        let one : b * 2 ^ 0 ≡ b = omega arith in
        rw (is, row, place, light, one, or_zero_l)

    corner : reversed_bits (get_or news most 0 % 256) ≡ w
    corner =
        let z : b % 256 ≡ b = omega (arith, fits) in
        rw (put, get_or-set_same, z, e, reversed_twice)
