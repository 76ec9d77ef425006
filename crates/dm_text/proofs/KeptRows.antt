-- The rows that are kept of lines.
use Rattle.std.proofs.Common.{◌≡◌, ◌≢◌, ◌∙◌, ◌+◌, ◌-◌, ◌*◌, ◌/◌, ◌%◌, ◌^◌, ◌<◌, ◌≤◌, ◌⊎◌, ℕ, zero, suc, Bool, true}
use Rattle.std.proofs.Common.{false, not, nat_eq, List, [], ◌∷◌, ◌++◌, Some, None, refl, sym, ap, subst, append-nil}
use Rattle.std.proofs.Common.{append_assoc, length, length-append, map, get_or, set, take, drop, arith, inl, inr}
use Rattle.std.specs.Prelude.{◌==◌, ◌||◌, ◌↔◌, IsTrue, nat_lt, if◌then◌else◌, slice_index_or, slice_set}
use Rattle.std.specs.List.{list_any, refill}
use Rattle.std.specs.Int.RustNames.{bit_or}
use Rattle.std.specs.Int.Bits.{or_shifted_r}
use Rattle.std.proofs.Math.Nat.{div-div-eq-div-mul, mod-eq_of_lt, mul_left_comm}
use Rattle.std.proofs.Math.Bool.{or-true}
use Rattle.std.proofs.Math.Pow.{pow_mono}
use Rattle.std.proofs.lemmas.Bool.{eqb-true, eqb-false, ltb-false, le-ltb, lt-ltb}
use Rattle.std.proofs.lemmas.List.{length-map, length-set, map-append}
use Rattle.std.proofs.lemmas.List.Folds.{list_any-append}
use Rattle.std.proofs.Math.Seq.{take-append_seam}
use Rattle.std.proofs.lemmas.List.FromFn.{fill_by_all}
use Rattle.dm_symbol.specs.Sizes.{largest_side}
use Rattle.dm_symbol.specs.Grid.{is_dark_in}
use Rattle.dm_text.specs.declared.rows.Rows.{Rows}
use Rattle.dm_text.specs.Texts.{lf, HasNoLf, ended_lines, last_line}
use Rattle.dm_text.specs.Records.{is_foreign, has_foreign, is_large, rows_of}
use Rattle.dm_text.specs.RecordFacts.{Cells, contents_of, differ, first_length, last_length}
use Rattle.dm_text.specs.inner.OpenRecords.{EndsLines, HoldsLines, cells_in, digit_of, is_dark, is_ended, line_count}
use Rattle.dm_text.specs.inner.OpenRecords.{number_of, rows_in, rows_seen}
use Rattle.std.proofs.lemmas.Grind.{flat_map-append}
use Rattle.dm_text.proofs.OpenRecordTexts.{ended_more, full_joined, full_more}
use Rattle.dm_text.proofs.RecordSteps.{by_tests, same_cells, count_new, last_new, first_new, or_cases, or_false}
use Rattle.dm_text.proofs.RecordSteps.{or_left, or_right, any_last, long, zero_lines}

-- ---- a line as a number

-- The digit of a character is 0 or 1.
digit_small : (b : ℕ) → digit_of b < 2
digit_small b = by_test (is_dark b)
  where
    by_test : (d : Bool) → (if d then 1 else 0) < 2
    by_test true = omega arith
    by_test false = omega arith

-- Each weight is twice the one before it.
doubled : (n : ℕ) → 2 ^ suc n ≡ 2 * 2 ^ n
doubled n = omega arith

-- The number of a line has no bit from the line's length on.
pub number_small : (line : List ℕ) → number_of line < 2 ^ length line
number_small [] = omega arith
number_small (b ∷ line) =
    let weight : 2 ^ length (b ∷ line) ≡ 2 * 2 ^ length line = doubled (length line) in
    omega (arith, digit_small b, number_small line, weight)

-- In the number of a line that becomes longer, the further characters have the weights that follow.
pub number_more : (line more : List ℕ) → number_of (line ++ more) ≡ number_of more * 2 ^ length line + number_of line
number_more [] more = omega arith
number_more (x ∷ line) more =
    let weight : number_of more * 2 ^ length (x ∷ line) ≡ 2 * (number_of more * 2 ^ length line) =
    ap (λ (w : ℕ). number_of more * w) (doubled (length line)) ∙ mul_left_comm (number_of more) 2 (2 ^ length line) in
    omega (arith, number_more line more, weight)

-- The number of further characters, shifted to their columns, is put into the number of the line by bits.
pub number_put : (line more : List ℕ) → bit_or (number_of line) (number_of more * 2 ^ length line) ≡
    number_of (line ++ more)
number_put line more =
    or_shifted_r (number_of more) (length line) (number_of line) (number_small line) ∙ sym (number_more line more)

-- The first cell of a row is its lowest bit.
lowest : (b n : ℕ) → is_dark_in (digit_of b + 2 * n) 0 ≡ is_dark b
lowest b n = by_test (is_dark b)
  where
    by_test : (d : Bool) → is_dark_in ((if d then 1 else 0) + 2 * n) 0 ≡ d
    by_test true = let e : (1 + 2 * n) / 2 ^ 0 % 2 ≡ 1 = omega arith in ap (λ (k : ℕ). nat_eq k 1) e
    by_test false = let e : (0 + 2 * n) / 2 ^ 0 % 2 ≡ 0 = omega arith in ap (λ (k : ℕ). nat_eq k 1) e

-- The other cells of a row are those of the number above its lowest bit.
higher : (b n c : ℕ) → is_dark_in (digit_of b + 2 * n) (suc c) ≡ is_dark_in n c
higher b n c =
    let half : (digit_of b + 2 * n) / 2 ≡ n = omega (arith, digit_small b) in
    ap (λ (k : ℕ). nat_eq (k % 2) 1)
    (ap (λ (w : ℕ). (digit_of b + 2 * n) / w) (doubled c) ∙ sym (div-div-eq-div-mul (digit_of b + 2 * n) 2 (2 ^ c))
    ∙ ap (λ (k : ℕ). k / 2 ^ c) half)

-- A cell in the number of a line is dark exactly where its character is 1.
cell_is : (line : List ℕ) (c : ℕ) → c < length line → get_or (map is_dark line) c false ≡ is_dark_in (number_of line) c
cell_is [] c l = absurd (omega arith)
cell_is (b ∷ line) zero l = sym (lowest b (number_of line))
cell_is (b ∷ line) (suc c) l = cell_is line c (omega (arith, l)) ∙ sym (higher b (number_of line) c)

-- The cells in the number of a line are those of its characters.
pub cells_are : (line : List ℕ) → map is_dark line ≡ cells_in (length line) (number_of line)
cells_are line =
    fill_by_all (is_dark_in (number_of line)) (map is_dark line) (length line) false (length-map line is_dark)
    (cell_is line)

-- ---- the rows of lines

-- Where neither the failing of a first test nor the passing of a second holds, the first passes and the second fails.
same_length : (a b : Bool) → (not a || b) ≡ false → (a ≡ true) × (b ≡ false)
same_length true b e = (refl, e)
same_length false b e = cc

-- Equal rows stay equal when a line of the right length comes before them.
row_before : (w : ℕ) (m : List ℕ) (rows others : List (List Bool)) → (length m == w) ≡ true → rows ≡ others →
    cells_in w (number_of m) ∷ rows ≡ map is_dark m ∷ others
row_before w m rows others e same =
    ap (λ k. cells_in k (number_of m) ∷ rows) (sym (eqb-true (length m) w e)) ∙ ap (λ k. k ∷ rows) (sym (cells_are m))
    ∙ ap (λ k. map is_dark m ∷ k) same

-- The rows of lines that don't differ in length are found again in their numbers.
rows_again : (w : ℕ) (lines : List (List ℕ)) (rest : List ℕ) → differ w lines ≡ false
    → rows_in w (last_length (lines ++ last_line rest)) (map number_of (lines ++ last_line rest)) ≡
    rows_of (lines ++ last_line rest)
rows_again w [] [] d = refl
rows_again w [] (x ∷ r) d = ap (λ k. k ∷ []) (sym (cells_are (x ∷ r)))
rows_again w (m ∷ []) [] d = ap (λ k. k ∷ []) (sym (cells_are m))
rows_again w (m ∷ []) (x ∷ r) d =
    row_before w m _ _ (same_length (length m == w) false d).0 (rows_again w [] (x ∷ r) refl)
rows_again w (m ∷ n ∷ lines) rest d =
    let both =
    same_length (length m == w) (differ w (n ∷ lines)) d in
    row_before w m _ _ both.0 (rows_again w (n ∷ lines) rest both.1)

-- As many lines are kept as there are.
pub counted : (t : Rows) (lines : List (List ℕ)) (rest : List ℕ) → HoldsLines t lines rest →
    line_count t ≡ length (lines ++ last_line rest)
counted t lines rest h = ap length h.rows_are ∙ length-map (lines ++ last_line rest) number_of

-- What is kept of lines are their contents.
pub seen_is : (t : Rows) (lines : List (List ℕ)) (rest : List ℕ) → HoldsLines t lines rest →
    Cells (line_count t) t.first t.last (rows_seen t) ≡ contents_of lines rest
seen_is t lines rest h =
    same_cells _ _ _ _ _ _ _ _ (counted t lines rest h) h.first_is h.last_is (rows t.differs refl)
    ∙ sym (ap (λ k. by_tests k (is_large (lines ++ last_line rest)) lines (lines ++ last_line rest)) h.cells
    ∙ ap (λ k. by_tests false k lines (lines ++ last_line rest)) h.small)
  where
    rows : (d : Bool) → t.differs ≡ d → rows_seen t ≡
        (if differ (first_length (lines ++ last_line rest)) lines then None
        else Some (rows_of (lines ++ last_line rest)))
    rows true e =
        let same : differ (first_length (lines ++ last_line rest)) lines ≡ true =
        ap (λ f. differ f lines) (sym h.first_is) ∙ sym h.differs_is ∙ e in
        rw (e, same) refl
    rows false e =
        let own : differ t.first lines ≡ false = sym h.differs_is ∙ e in
        let same : differ (first_length (lines ++ last_line rest)) lines ≡ false =
        ap (λ f. differ f lines) (sym h.first_is) ∙ own in
        let seen : rows_in t.first t.last t.rows.items ≡ rows_of (lines ++ last_line rest) =
        ap (λ n. rows_in t.first n t.rows.items) h.last_is
        ∙ ap (rows_in t.first (last_length (lines ++ last_line rest))) h.rows_are
        ∙ rows_again t.first lines rest own in
        rw (e, same, seen) refl

-- ---- lines that aren't too large

-- A number that isn't above the largest side is at most that side.
few : (n : ℕ) → nat_lt largest_side n ≡ false → n ≤ largest_side
few n e = ltb-false largest_side n e

-- The lines and a further one are not too many, and the further one isn't too long.
abbrev pub Small : List (List ℕ) → List ℕ → Type 0
Small lines line = (length lines + 1 ≤ largest_side) × (length line ≤ largest_side)

-- Lines that are held with a rest are, with the rest, not too many, and the rest isn't too long.
pub with_line : (t : Rows) (lines : List (List ℕ)) (x : ℕ) (r : List ℕ) → HoldsLines t lines (x ∷ r) →
    Small lines (x ∷ r)
with_line t lines x r h =
    let tests : (nat_lt largest_side (length lines + 1) || (list_any long lines || long (x ∷ r))) ≡ false =
    rw (count_new lines (x ∷ r), any_last long lines (x ∷ r)) at h.small in
    let parts = or_cases (nat_lt largest_side (length lines + 1)) (list_any long lines || long (x ∷ r)) tests in
    let more = or_cases (list_any long lines) (long (x ∷ r)) parts.1 in
    (few (length lines + 1) parts.0, few (length (x ∷ r)) more.1)

-- Lines that are held without a rest are not too many, and as many are kept.
pub without_line : (t : Rows) (lines : List (List ℕ)) → HoldsLines t lines [] →
    (length lines ≤ largest_side) × (line_count t ≡ length lines)
without_line t lines h =
    let small : is_large lines ≡ false = rw (append-nil lines) at h.small in
    let parts = or_cases (nat_lt largest_side (length lines)) (list_any long lines) small in
    (few (length lines) parts.0, counted t lines [] h ∙ ap length (append-nil lines))

-- ---- more characters

-- Lines that aren't too large become so by a further line if they are then too many or if that one is too long.
large_line : (lines : List (List ℕ)) (line : List ℕ) → is_large lines ≡ false →
    is_large (lines ++ line ∷ []) ≡ (nat_lt largest_side (length lines + 1) || long line)
large_line lines line e =
    let parts = or_cases (nat_lt largest_side (length lines)) (list_any long lines) e in
    rw (count_new lines line, any_last long lines line, parts.1) refl

-- Where as many lines are kept as the largest side, a new one makes them too large.
pub begin_full : (t : Rows) (lines : List (List ℕ)) (more : List ℕ) → HoldsLines t lines [] →
    line_count t ≡ largest_side → 0 < length more
    → is_large (lines ++ last_line more) ≡ true
begin_full t lines [] h full some = absurd (omega arith)
begin_full t lines (y ∷ ys) h full some =
    let known = without_line t lines h in
    large_line lines (y ∷ ys) (rw (append-nil lines) at h.small)
    ∙ or_left (nat_lt largest_side (length lines + 1)) (long (y ∷ ys))
    (lt-ltb largest_side (length lines + 1) (omega (arith, known.1, full)))

-- A new line that is longer than the largest side makes the lines too large.
pub begin_long : (t : Rows) (lines : List (List ℕ)) (more : List ℕ) → HoldsLines t lines [] →
    largest_side < length more → is_large (lines ++ last_line more) ≡ true
begin_long t lines [] h full = absurd (omega arith)
begin_long t lines (y ∷ ys) h full =
    large_line lines (y ∷ ys) (rw (append-nil lines) at h.small)
    ∙ or_right (nat_lt largest_side (length lines + 1)) (long (y ∷ ys)) (lt-ltb largest_side (length (y ∷ ys)) full)

-- Where each of two tests fails, neither passes.
false_both : (a b : Bool) → a ≡ false → b ≡ false → (a || b) ≡ false
false_both a b e f = rw (e, f) refl

-- Where there are no lines, none differs in length.
differ_none : (lines : List (List ℕ)) (f g : ℕ) → length lines ≡ 0 → differ f lines ≡ differ g lines
differ_none [] f g e = refl
differ_none (l ∷ lines) f g e = absurd (omega arith)

-- A number that is at most the largest side isn't above it.
le_test : (m : ℕ) → m ≤ largest_side → nat_lt largest_side m ≡ false
le_test m le = le-ltb largest_side m le

-- Where there is room for a new line, the rows with its number are those of the lines with it.
pub begin_done : (t s : Rows) (lines : List (List ℕ)) (more : List ℕ) → HoldsLines t lines [] →
    list_any is_foreign more ≡ false → 0 < length more
    → length more ≤ largest_side → line_count t ≢ largest_side → s.rows.items ≡ t.rows.items ++ number_of more ∷ []
    → (line_count t ≡ 0 → s.first ≡ length more) → (line_count t ≢ 0 → s.first ≡ t.first) → s.last ≡ length more →
    s.differs ≡ t.differs
    → HoldsLines s lines more
begin_done t s lines [] h cells some few room rows first_zero first_some last differs = absurd (omega arith)
begin_done t s lines (y ∷ ys) h cells some few room rows first_zero first_some last differs =
    let known = without_line t lines h in
    let small : is_large lines ≡ false = rw (append-nil lines) at h.small in
    let before : has_foreign lines ≡ false = rw (append-nil lines) at h.cells in
    let firsts : t.first ≡ first_length lines = h.first_is ∙ ap first_length (append-nil lines) in
    record {
      rows_are = rows ∙ ap (λ l. l ++ number_of (y ∷ ys) ∷ []) (h.rows_are ∙ ap (map number_of) (append-nil lines))
          ∙ sym (map-append number_of lines ((y ∷ ys) ∷ []));
      first_is = first_cases (length lines == 0) refl known.1 firsts ∙ sym (first_new lines (y ∷ ys));
      last_is = last ∙ sym (last_new lines (y ∷ ys));
      differs_is = differs ∙ h.differs_is ∙ same_differ (length lines == 0) refl known.1;
      cells =
          any_last (list_any is_foreign) lines (y ∷ ys)
          ∙ false_both (has_foreign lines) (list_any is_foreign (y ∷ ys)) before cells;
      small = large_line lines (y ∷ ys) small
          ∙ false_both (nat_lt largest_side (length lines + 1)) (long (y ∷ ys))
          (le_test (length lines + 1) (omega (arith, room, known.0, known.1))) (le_test (length (y ∷ ys)) few);
    }
  where
    first_cases : (v : Bool) → (length lines == 0) ≡ v → line_count t ≡ length lines → t.first ≡ first_length lines
        → s.first ≡ (if length lines == 0 then length (y ∷ ys) else first_length lines)
    first_cases true e c f = rw e (first_zero (c ∙ eqb-true (length lines) 0 e))
    first_cases false e c f = rw e (first_some (λ z. eqb-false (length lines) 0 e (sym c ∙ z)) ∙ f)

    same_differ : (v : Bool) → (length lines == 0) ≡ v → line_count t ≡ length lines →
        differ t.first lines ≡ differ s.first lines
    same_differ true e c = differ_none lines t.first s.first (eqb-true (length lines) 0 e)
    same_differ false e c = ap (λ k. differ k lines) (sym (first_some (λ z. eqb-false (length lines) 0 e (sym c ∙ z))))

-- Lines that, with a last one, aren't too large are not too many, and none of them is too long.
with_last : (lines : List (List ℕ)) (line : List ℕ) → is_large (lines ++ line ∷ []) ≡ false →
    (nat_lt largest_side (length lines + 1) ≡ false) × (list_any long lines ≡ false)
with_last lines line e =
    let tests : (nat_lt largest_side (length lines + 1) || (list_any long lines || long line)) ≡ false =
    rw (count_new lines line, any_last long lines line) at e in
    let parts = or_cases (nat_lt largest_side (length lines + 1)) (list_any long lines || long line) tests in
    (parts.0, (or_cases (list_any long lines) (long line) parts.1).0)

-- When the last line becomes longer, only its length decides whether the lines are too large.
large_longer : (lines : List (List ℕ)) (line longer : List ℕ) → is_large (lines ++ line ∷ []) ≡ false →
    is_large (lines ++ longer ∷ []) ≡ long longer
large_longer lines line longer e = let parts = with_last lines line e in
    rw (count_new lines longer, any_last long lines longer, parts.0, parts.1) refl

-- Where there is no room in the last line, further characters make the lines too large.
pub lengthen_full : (t : Rows) (lines : List (List ℕ)) (x : ℕ) (r more : List ℕ) → HoldsLines t lines (x ∷ r) →
    largest_side < t.last + length more
    → is_large (lines ++ last_line ((x ∷ r) ++ more)) ≡ true
lengthen_full t lines x r more h full =
    let lasts : t.last ≡ length (x ∷ r) = h.last_is ∙ last_new lines (x ∷ r) in
    large_longer lines (x ∷ r) ((x ∷ r) ++ more) h.small
    ∙ lt-ltb largest_side (length ((x ∷ r) ++ more)) (omega (arith, full, lasts, length-append (x ∷ r) more))

-- The rows have these bits added in the last of them.
abbrev pub with_bits : Rows → ℕ → List ℕ
with_bits t bits = set t.rows.items (line_count t - 1) (bit_or (get_or t.rows.items (line_count t - 1) 0) bits)

-- A write to the last row through the slice leaves the rows with these bits added.
pub written : (t : Rows) (count bits : ℕ) (rows : List ℕ) → rows ≡ t.rows.items → count ≡ line_count t
    → refill (line_count t) t.rows.items (slice_set rows (count - 1)
    (bit_or (slice_index_or rows (count - 1) 0) bits)) ≡ with_bits t bits
written t count bits rows e f =
    rw (e, f) (whole t.rows.items (with_bits t bits) (length-set t.rows.items (line_count t - 1) _))
  where
    whole : (xs ys : List ℕ) → length ys ≡ length xs → refill (length xs) xs ys ≡ ys
    whole xs ys same =
        ap (λ n. take n (ys ++ drop (length ys) xs)) (sym same) ∙ take-append_seam ys (drop (length ys) xs)

-- Shifting the number of further characters to their columns loses no bit.
pub shifted : (t : Rows) (lines : List (List ℕ)) (x : ℕ) (r more : List ℕ) (bits : ℕ) → HoldsLines t lines (x ∷ r) →
    t.last + length more ≤ largest_side
    → bits ≡ number_of more → bits * 2 ^ t.last % 2 ^ 128 ≡ number_of more * 2 ^ t.last
shifted t lines x r more bits h room e =
    let line = x ∷ r in
    let lasts : t.last ≡ length line = h.last_is ∙ last_new lines line in
    let long : length (line ++ more) ≤ 128 = omega (arith, length-append line more, lasts, room) in
    let small : number_of more * 2 ^ length line < 2 ^ 128 =
    omega (arith, number_more line more, number_small (line ++ more), pow_mono long) in
    ap (λ (k : ℕ). k * 2 ^ t.last % 2 ^ 128) e ∙ rw lasts (mod-eq_of_lt small)

-- The rows with the further characters' bits added are those of the lines with the last one longer.
with_bits_are : (t : Rows) (lines : List (List ℕ)) (x : ℕ) (r more : List ℕ) → HoldsLines t lines (x ∷ r)
    → with_bits t (number_of more * 2 ^ t.last) ≡ map number_of (lines ++ ((x ∷ r) ++ more) ∷ [])
with_bits_are t lines x r more h =
    let count : line_count t - 1 ≡ length lines = omega (arith, counted t lines (x ∷ r) h, count_new lines (x ∷ r)) in
    let long : t.last ≡ length (x ∷ r) = h.last_is ∙ last_new lines (x ∷ r) in
    rw (count, long, h.rows_are) (put_last lines (x ∷ r) more)
  where
    put_last : (lines : List (List ℕ)) (line more : List ℕ)
        → set (map number_of (lines ++ line ∷ [])) (length lines)
        (bit_or (get_or (map number_of (lines ++ line ∷ [])) (length lines) 0) (number_of more * 2 ^ length line))
        ≡ map number_of (lines ++ (line ++ more) ∷ [])
    put_last [] line more = ap (λ n. n ∷ []) (number_put line more)
    put_last (l ∷ lines) line more = ap (λ k. number_of l ∷ k) (put_last lines line more)

-- Where there is room in the last line, the rows with further characters
-- are those of the lines with the last one longer.
pub lengthen_done : (t s : Rows) (lines : List (List ℕ)) (x : ℕ) (r more : List ℕ) → HoldsLines t lines (x ∷ r) →
    list_any is_foreign more ≡ false
    → t.last + length more ≤ largest_side → s.rows.items ≡ with_bits t (number_of more * 2 ^ t.last) →
    (line_count t ≡ 1 → s.first ≡ t.last + length more)
    → (line_count t ≢ 1 → s.first ≡ t.first) → s.last ≡ t.last + length more → s.differs ≡ t.differs →
    HoldsLines s lines ((x ∷ r) ++ more)
lengthen_done t s lines x r more h cells room rows first_one first_other last differs =
    let longer = (x ∷ r) ++ more in
    let lasts : t.last ≡ length (x ∷ r) = h.last_is ∙ last_new lines (x ∷ r) in
    let long_now : t.last + length more ≡ length longer =
    ap (λ n. n + length more) lasts ∙ sym (length-append (x ∷ r) more) in
    let lines_now : line_count t ≡ length lines + 1 = counted t lines (x ∷ r) h ∙ count_new lines (x ∷ r) in
    record {
      rows_are = rows ∙ with_bits_are t lines x r more h;
      first_is = first_cases (length lines == 0) refl long_now lines_now ∙ sym (first_new lines longer);
      last_is = last ∙ long_now ∙ sym (last_new lines longer);
      differs_is = differs ∙ h.differs_is ∙ same_differ (length lines == 0) refl lines_now;
      cells = any_last (list_any is_foreign) lines longer
          ∙ false_both (has_foreign lines) (list_any is_foreign longer) (before.0)
          (list_any-append is_foreign (x ∷ r) more
          ∙ false_both (list_any is_foreign (x ∷ r)) (list_any is_foreign more) before.1 cells);
      small = large_longer lines (x ∷ r) longer h.small ∙ le_test (length longer) (omega (arith, room, long_now));
    }
  where
    before : (has_foreign lines ≡ false) × (list_any is_foreign (x ∷ r) ≡ false)
    before =
        or_cases (has_foreign lines) (list_any is_foreign (x ∷ r)) (sym (any_last (list_any is_foreign) lines (x ∷ r))
        ∙ h.cells)

    first_cases : (v : Bool) → (length lines == 0) ≡ v → t.last + length more ≡ length ((x ∷ r) ++ more) →
        line_count t ≡ length lines + 1
        → s.first ≡ (if length lines == 0 then length ((x ∷ r) ++ more) else first_length lines)
    first_cases true e l c = rw e (first_one (omega (arith, c, eqb-true (length lines) 0 e)) ∙ l)
    first_cases false e l c =
        let some : length lines ≢ 0 = eqb-false (length lines) 0 e in
        let was : first_length (lines ++ (x ∷ r) ∷ []) ≡ first_length lines = first_new lines (x ∷ r) ∙ rw e refl in
        rw e (first_other (λ z. some (omega (arith, c, z))) ∙ h.first_is ∙ was)

    same_differ : (v : Bool) → (length lines == 0) ≡ v → line_count t ≡ length lines + 1 →
        differ t.first lines ≡ differ s.first lines
    same_differ true e c = differ_none lines t.first s.first (eqb-true (length lines) 0 e)
    same_differ false e c = let some : length lines ≢ 0 = eqb-false (length lines) 0 e in
        ap (λ k. differ k lines) (sym (first_other (λ z. some (omega (arith, c, z)))))

-- When the last line ends, the rows are those of the lines with it.
pub end_holds : (t s : Rows) (lines : List (List ℕ)) (x : ℕ) (r : List ℕ) → HoldsLines t lines (x ∷ r) →
    s.rows ≡ t.rows → s.first ≡ t.first
    → s.last ≡ t.last → (t.last ≢ t.first → s.differs ≡ true) → (t.last ≡ t.first → s.differs ≡ t.differs) →
    HoldsLines s (lines ++ (x ∷ r) ∷ []) []
end_holds t s lines x r h rows first last other same =
    let all = lines ++ (x ∷ r) ∷ [] in
    let none = append-nil all in
    let lasts : t.last ≡ length (x ∷ r) = h.last_is ∙ last_new lines (x ∷ r) in
    record {
      rows_are = ap (λ v. v.items) rows ∙ h.rows_are ∙ ap (map number_of) (sym none);
      first_is = first ∙ h.first_is ∙ ap first_length (sym none);
      last_is = last ∙ h.last_is ∙ ap last_length (sym none);
      differs_is =
          differs_cases (t.last == t.first) refl ∙ ap (λ n. differ t.first lines || not (n == t.first)) lasts
          ∙ sym (any_last (λ l. not (length l == t.first)) lines (x ∷ r))
          ∙ ap (λ f. differ f all) (sym first);
      cells = ap has_foreign none ∙ h.cells;
      small = ap is_large none ∙ h.small;
    }
  where
    differs_cases : (v : Bool) → (t.last == t.first) ≡ v → s.differs ≡ (differ t.first lines || not (t.last == t.first))
    differs_cases true e =
        rw e (same (eqb-true t.last t.first e) ∙ h.differs_is ∙ sym (or_false (differ t.first lines)))
    differs_cases false e = rw e (other (eqb-false t.last t.first e) ∙ sym (or-true (differ t.first lines)))

-- ---- where a new line begins

-- Where a record has ended or has no line, a new line begins: there is no rest.
pub begins : (t : Rows) (lines : List (List ℕ)) (rest : List ℕ) (e : Bool) → HoldsLines t lines rest →
    e ≡ is_ended lines rest → (e ≡ true) ⊎ (line_count t ≡ 0) → rest ≡ []
begins t lines [] e h is why = refl
begins t lines (x ∷ r) e h is (inl e1) = let never : true ≡ false = sym e1 ∙ is in cc
begins t lines (x ∷ r) e h is (inr none) = (zero_lines lines (x ∷ r) (sym (counted t lines (x ∷ r) h) ∙ none)).1

-- Where a record has lines and hasn't ended, its last line goes on: there is a rest.
pub continues : (t : Rows) (lines : List (List ℕ)) (rest : List ℕ) (e : Bool) → HoldsLines t lines rest →
    e ≡ is_ended lines rest → e ≡ false → line_count t ≢ 0
    → (x : ℕ) × (r : List ℕ) × (rest ≡ x ∷ r)
continues t lines (x ∷ r) e h is never some = (x, r, refl)
continues t [] [] e h is never some = absurd (some (counted t [] [] h))
continues t (l ∷ lines) [] e h is never some = let both : true ≡ false = sym is ∙ never in cc

-- A rest that isn't empty can end as a line.
pub some_rest : (t s : Rows) (lines : List (List ℕ)) (rest : List ℕ) → HoldsLines t lines rest → rest ≢ []
    → ((x : ℕ) (r : List ℕ) → HoldsLines t lines (x ∷ r) → HoldsLines s (lines ++ (x ∷ r) ∷ []) []) →
    HoldsLines s (lines ++ rest ∷ []) []
some_rest t s lines [] h n f = absurd (n refl)
some_rest t s lines (x ∷ r) h n f = f x r h

-- The rows are those of some lines and of a rest, which is empty or not.
abbrev pub Held : Rows → Bool → Type 0
Held t e = (lines : List (List ℕ)) × (rest : List ℕ) × HoldsLines t lines rest × (e ≡ is_ended lines rest)

-- Where a record has ended or has no line, the rows are those of its lines alone.
pub begun : (t : Rows) (e : Bool) → Held t e → (e ≡ true) ⊎ (line_count t ≡ 0) →
    (lines : List (List ℕ)) × HoldsLines t lines []
begun t e held why = (held.0, subst (HoldsLines t held.0) (begins t held.0 held.1 e held.2 held.3 why) held.2)

-- Where a record has lines and hasn't ended, the rows are those of its lines and a rest that isn't empty.
pub lengthened : (t : Rows) (e : Bool) → Held t e → e ≡ false → line_count t ≢ 0 →
    (lines : List (List ℕ)) × (x : ℕ) × (rest : List ℕ) × HoldsLines t lines (x ∷ rest)
lengthened t e held never some =
    let r =
    continues t held.0 held.1 e held.2 held.3 never some in
    (held.0, r.0, r.1, subst (HoldsLines t held.0) r.2 held.2)

-- ---- whole lines

-- Whole lines and one more, with its LF, are whole lines.
pub ends_more : (t u : Rows) (lines : List (List ℕ)) (bytes line : List ℕ) → (e : EndsLines t lines bytes) → line ≢ [] →
    HasNoLf line
    → HoldsLines u ((lines ++ e.more) ++ line ∷ []) [] → EndsLines u lines (bytes ++ (line ++ lf ∷ []))
ends_more t u lines bytes line e some no_lf held = record {
  more = e.more ++ line ∷ [];
  bytes_are = ap (λ (k : List ℕ). k ++ (line ++ lf ∷ [])) e.bytes_are ∙ sym (ended_more e.more line);
  full = full_more e.more line e.full some no_lf;
  held = subst (λ (l : List (List ℕ)). HoldsLines u l []) (append_assoc lines e.more (line ∷ [])) held;
}

-- Whole lines and further whole lines are whole lines.
pub ends_joined : (t u : Rows) (lines : List (List ℕ)) (bytes next : List ℕ) → (e : EndsLines t lines bytes) →
    EndsLines u (lines ++ e.more) next → EndsLines u lines (bytes ++ next)
ends_joined t u lines bytes next e f = record {
  more = e.more ++ f.more;
  bytes_are =
      ap (λ (k : List ℕ). k ++ next) e.bytes_are ∙ ap (λ (k : List ℕ). ended_lines e.more ++ k) f.bytes_are
      ∙ sym (flat_map-append (λ l. l ++ lf ∷ []) e.more f.more);
  full = full_joined e.more f.more e.full f.full;
  held = subst (λ (l : List (List ℕ)). HoldsLines u l []) (append_assoc lines e.more f.more) f.held;
}

-- Lines without a rest have ended with LF exactly if there are some.
pub lines_end : (t : Rows) (lines : List (List ℕ)) (none : Bool) → HoldsLines t lines [] →
    (IsTrue none ↔ (line_count t ≡ 0)) → not none ≡ is_ended lines []
lines_end t [] true h by = refl
lines_end t [] false h by = let never : false ≡ true = by.1 (counted t [] [] h) in cc
lines_end t (l ∷ lines) true h by = let never =
    (zero_lines (l ∷ lines) [] (sym (counted t (l ∷ lines) [] h) ∙ by.0 refl)).0 in cc
lines_end t (l ∷ lines) false h by = refl
