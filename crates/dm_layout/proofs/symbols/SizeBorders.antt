-- The borders of a size as bits.
use Rattle.dm_layout.proofs.Names.{nat_tests, ◌≡◌, ◌≢◌, ◌⊎◌, inl, inr, ℕ, ◌+◌, ◌-◌, ◌*◌, ◌/◌, ◌%◌, ◌^◌, ◌<◌, ◌≤◌, Bool}
use Rattle.dm_layout.proofs.Names.{true, cond, nat_eq, sym, ◌∙◌, ap, subst, arith, eq-eqb, bit_and, mod-eq_of_lt}
use Rattle.dm_layout.proofs.Names.{pow_mono, pow_pos, cases_eq, cases_lt, ne_eqb, and_le_r, mul-add-lt, pow-add}
use Rattle.dm_layout.proofs.Names.{pow_below, bit_at_above, is_dark_bit, SizeEntry, IsSize, AreBorders, AreRuled}
use Rattle.dm_layout.proofs.Names.{whole_row, EVEN_COLUMNS, EVEN_END}
use Rattle.std.proofs.lemmas.Nat.Bits.{bit_at-pow_other, bit_at-pow_same, ones_shr}
use Rattle.dm_layout.proofs.symbols.BorderMasks.{all_ones, are_borders, both_at, end_patterns_at, left_at, left_by_all}
use Rattle.dm_layout.proofs.symbols.BorderMasks.{patterns_at, stands}
use Rattle.dm_layout.proofs.symbols.KeptRows.{whole_cells, whole_end, whole_first}
use Rattle.dm_layout.proofs.symbols.LongRows.{whole_alone}
use Rattle.dm_layout.proofs.symbols.LongSizes.{long_size}
use Rattle.dm_layout.proofs.symbols.Rows.{darkened, darkened_cell, darkened_narrow, weight}
use Rattle.dm_layout.proofs.symbols.TableEntries.{size_facts}

-- The borders of a symbol of at most 128 columns.
pub short_borders : (size : SizeEntry) (low last a left both n : ℕ) → IsSize size → size.columns < 128 →
    low ≡ size.region_rows + 1 → last ≡ size.region_columns + 1 → a ≡ size.regions_across → AreRuled last a left both →
    n ≡ size.columns →
    AreBorders size low (whole_row left 0) (whole_row both 0) (whole_row (bit_and EVEN_COLUMNS (1 * 2 ^ n % 2 ^ 128 -
    1)) 0)
    (whole_row (1 * 2 ^ n % 2 ^ 128 - 1) 0)
short_borders size low last a left both n entry narrow ew el ea ruled en =
    let all : ℕ = 1 * 2 ^ n % 2 ^ 128 - 1 in
    let e : all ≡ 2 ^ size.columns - 1 =
    ap (λ (i : ℕ). i - 1) (weight n (omega (arith, narrow, en))) ∙ ap (λ (i : ℕ). 2 ^ i - 1) en in
    let av : (c : ℕ) → c < size.columns → is_dark_bit all c ≡ true = λ c l.
    ap (λ (x : ℕ). is_dark_bit x c) e ∙ all_ones size.columns c l in
    let p = pow_pos size.columns in
    let aw : all < 2 ^ size.columns = omega (arith, e, p) in
    let h = and_le_r EVEN_COLUMNS all in
    rw (whole_alone left, whole_alone both, whole_alone (bit_and EVEN_COLUMNS all), whole_alone all) (are_borders size
    low last a left both (bit_and EVEN_COLUMNS all) all entry ew el ea ruled av aw (λ c l. left_by_all EVEN_COLUMNS all
    c (av c l) ∙ patterns_at c (omega (arith, l, narrow))) (omega (arith, h, aw)))

-- A row of two numbers is no wider than both together.
pub whole_narrow : (row end n : ℕ) → row < 2 ^ 128 → end < 2 ^ n → whole_row row end < 2 ^ (128 + n)
whole_narrow row end n lr le =
    subst (λ (i : ℕ). whole_row row end < i) (sym (pow-add 2 128 n)) (mul-add-lt end (2 ^ 128) row (2 ^ n) le lr)

-- A power of 2 that fits in 16 bits is kept whole.
end_weight : (c : ℕ) → c < 16 → 1 * 2 ^ c % 2 ^ 16 ≡ 2 ^ c
end_weight c l = grind (arith, nat_tests, pow_below, mod-eq_of_lt)

-- A cell behind the first 128 that is made dark is a power of 2 in the second number.
ended_cell : (row q c : ℕ) → row < 2 ^ 128 → 128 ≤ q → q < 144 →
    is_dark_bit (whole_row row (1 * 2 ^ (q - 128) % 2 ^ 16)) c ≡ cond (nat_eq c q) true (is_dark_bit row c)
ended_cell row q c low far near = by_column (cases_lt c 128) (cases_eq c q)
  where
    end : ℕ
    end = 1 * 2 ^ (q - 128) % 2 ^ 16

    is : end ≡ 2 ^ (q - 128)
    is = end_weight (q - 128) (omega (arith, far, near))

    by_column : (c < 128) ⊎ (128 ≤ c) → (c ≡ q) ⊎ (c ≢ q) →
        is_dark_bit (whole_row row end) c ≡ cond (nat_eq c q) true (is_dark_bit row c)
    by_column (inl l) e =
        whole_first row end c l
        ∙ sym (ap (λ (b : Bool). cond b true (is_dark_bit row c)) (ne_eqb c q (λ z. omega (arith, z, l, far))))
    by_column (inr m) (inl e) =
        whole_end row end c low m ∙ ap (λ (i : ℕ). is_dark_bit i (c - 128)) is
        ∙ ap (λ (i : ℕ). is_dark_bit (2 ^ (q - 128)) (i - 128)) e
        ∙ ap (λ (i : ℕ). nat_eq i 1) (bit_at-pow_same (q - 128))
        ∙ sym (ap (λ (b : Bool). cond b true (is_dark_bit row c)) (eq-eqb c q e))
    by_column (inr m) (inr ne) =
        whole_end row end c low m ∙ ap (λ (i : ℕ). is_dark_bit i (c - 128)) is
        ∙ ap (λ (i : ℕ). nat_eq i 1) (bit_at-pow_other (q - 128) (c - 128) (λ z. ne (omega (arith, z, m, far))))
        ∙ ap (λ (i : ℕ). nat_eq i 1) (sym (bit_at_above row 128 c low m))
        ∙ sym (ap (λ (b : Bool). cond b true (is_dark_bit row c)) (ne_eqb c q ne))

-- The last region with its border, whose right column lies behind the first 128, is drawn as the others are.
last_ruled : (last a left both : ℕ) → 1 ≤ last → a * (last + 1) < 128 → 128 ≤ a * (last + 1) + last →
    a * (last + 1) + last < 144 → left < 2 ^ 128 → both < 2 ^ 128 → AreRuled last a left both →
    AreRuled last (a + 1) (darkened left (a * (last + 1)))
    (whole_row (darkened both (a * (last + 1))) (1 * 2 ^ (a * (last + 1) + last - 128) % 2 ^ 16))
last_ruled last a left both least lk far near lw bw old =
    let k : ℕ = a * (last + 1) in
    let n : ℕ = (a + 1) * (last + 1) in
    let e : n ≡ k + last + 1 = omega arith in
    let w : 128 + (k + last - 128 + 1) ≡ n = omega (arith, e, far) in
    let low : darkened both k < 2 ^ 128 = darkened_narrow both k 128 lk lk bw in
    let m : 2 ^ 128 ≤ 2 ^ n = pow_mono {i = 128} (omega (arith, e, far)) in
    let wide : left < 2 ^ n = omega (arith, lw, m) in
    let is = end_weight (k + last - 128) (omega (arith, far, near)) in
    let p : 2 ^ (k + last - 128 + 1) ≡ 2 ^ (k + last - 128) * 2 ^ 1 = pow-add 2 (k + last - 128) 1 in
    let q = pow_pos (k + last - 128) in
    record {
      left_columns =
          λ c. rw (darkened_cell left k c lk, old.left_columns c, left_at last a c (stands c a (last + 1)));
      both_columns = λ c.
          ended_cell (darkened both k) (k + last) c low far near
          ∙ ap (cond (nat_eq c (k + last)) true) (darkened_cell both k c lk
          ∙ ap (cond (nat_eq c k) true) (old.both_columns c))
          ∙ both_at last a c (stands c a (last + 1));
      left_width = darkened_narrow left k n lk (omega (arith, e, least)) wide;
      both_width =
          rw w at (whole_narrow (darkened both k) (1 * 2 ^ (k + last - 128) % 2 ^ 16) (k + last - 128 + 1) low (omega
          (arith, is, p, q)));
    }

-- The borders of a symbol of more than 128 columns.
pub long_borders : (size : SizeEntry) (low last left both n : ℕ) → IsSize size → 128 < size.columns →
    low ≡ size.region_rows + 1 → last ≡ size.region_columns + 1 → AreRuled last 5 left both →
    left < 2 ^ 128 → both < 2 ^ 128 → n ≡ size.columns - 128 →
    AreBorders size low (whole_row (darkened left (5 * (last + 1))) 0)
    (whole_row (darkened both (5 * (last + 1))) (1 * 2 ^ (n - 1) % 2 ^ 16))
    (whole_row EVEN_COLUMNS (bit_and EVEN_END ((2 ^ 16 - 1) / 2 ^ (16 - n))))
    (whole_row (2 ^ 128 - 1) ((2 ^ 16 - 1) / 2 ^ (16 - n)))
long_borders size low last left both n entry wide ew el ruled lw bw en =
    let facts = size_facts size entry in
    let long = long_size size entry wide in
    let all : ℕ = (2 ^ 16 - 1) / 2 ^ (16 - n) in
    let few : n ≤ 16 = omega (arith, en, facts.columns_fit) in
    let whole : 128 + n ≡ size.columns = omega (arith, en, wide) in
    let back : 16 - (16 - n) ≡ n = omega (arith, few) in
    let e : all ≡ 2 ^ n - 1 = ones_shr 16 (16 - n) (omega arith) ∙ ap (λ (i : ℕ). 2 ^ i - 1) back in
    let p = pow_pos n in
    let aw : all < 2 ^ n = omega (arith, e, p) in
    let av : (c : ℕ) → c < size.columns → is_dark_bit (whole_row (2 ^ 128 - 1) all) c ≡ true = λ c l.
    whole_cells (2 ^ 128 - 1) all size.columns (λ k. true) (omega arith) (λ k lk h. all_ones 128 k lk)
    (λ k h. ap (λ (x : ℕ). is_dark_bit x k) e ∙ all_ones n k (omega (arith, h, whole))) c l in
    let h = and_le_r EVEN_END all in
    let ends : 5 * (last + 1) + last - 128 ≡ n - 1 = omega (arith, el, en, long.columns) in
    subst (λ (i : ℕ). AreBorders size low i
    (whole_row (darkened both (5 * (last + 1))) (1 * 2 ^ (n - 1) % 2 ^ 16))
    (whole_row EVEN_COLUMNS (bit_and EVEN_END all)) (whole_row (2 ^ 128 - 1) all))
    (sym (whole_alone (darkened left (5 * (last + 1)))))
    (are_borders size low last (5 + 1) (darkened left (5 * (last + 1)))
    (whole_row (darkened both (5 * (last + 1))) (1 * 2 ^ (n - 1) % 2 ^ 16))
    (whole_row EVEN_COLUMNS (bit_and EVEN_END all)) (whole_row (2 ^ 128 - 1) all) entry ew el (sym long.across)
    (subst (λ (i : ℕ). AreRuled last (5 + 1) (darkened left (5 * (last + 1)))
    (whole_row (darkened both (5 * (last + 1))) (1 * 2 ^ i % 2 ^ 16))) ends
    (last_ruled last 5 left both (omega (arith, el)) (omega (arith, el, long.most)) (omega (arith, el, long.least))
    (omega (arith, el, long.most)) lw bw ruled))
    av
    (subst (λ (i : ℕ). whole_row (2 ^ 128 - 1) all < 2 ^ i) whole
    (whole_narrow (2 ^ 128 - 1) all n (omega arith) aw))
    (λ c l.
    whole_cells EVEN_COLUMNS (bit_and EVEN_END all) size.columns (λ k. nat_eq (k % 2) 0) (omega arith)
    (λ k lk h. patterns_at k lk)
    (λ k h.
    let lk : k < n = omega (arith, h, whole) in
    left_by_all EVEN_END all k (ap (λ (x : ℕ). is_dark_bit x k) e ∙ all_ones n k lk)
    ∙ end_patterns_at k (omega (arith, lk, few))
    ∙ ap (λ (i : ℕ). nat_eq i 0) (let t : k % 2 ≡ (128 + k) % 2 = omega arith in t)) c l)
    (subst (λ (i : ℕ). whole_row EVEN_COLUMNS (bit_and EVEN_END all) < 2 ^ i) whole
    (whole_narrow EVEN_COLUMNS (bit_and EVEN_END all) n (omega arith) (omega (arith, h, aw)))))
