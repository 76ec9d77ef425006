-- Rows of more than 128 columns, of which the last region lies across column 128.
use Rattle.dm_layout.proofs.Names.{nat_tests, ◌≡◌, ◌⊎◌, inl, inr, ℕ, ◌+◌, ◌-◌, ◌*◌, ◌/◌, ◌%◌, ◌^◌, ◌<◌, ◌≤◌, Bool, ◌||◌}
use Rattle.dm_layout.proofs.Names.{sym, ◌∙◌, ap, subst, arith, bit_or, or_shifted_r, cases_lt, or_lt, div-add-mod'}
use Rattle.dm_layout.proofs.Names.{div-mul-add, mod-mul-add, pow-add, mul-add-lt, mod-eq_of_lt, mod-lt}
use Rattle.dm_layout.proofs.Names.{lt_of_mul-lt-mul_right, mul-le-mul_right, pow_mono, pow_pos, symbol_line, SymbolView}
use Rattle.dm_layout.proofs.Names.{module_at, is_dark_bit, IsSize, mapping_columns, whole_row}
use Rattle.std.proofs.lemmas.Nat.{div_below}
use Rattle.dm_layout.proofs.symbols.InnerRows.{one_more}
use Rattle.dm_layout.proofs.symbols.KeptRows.{whole_end, whole_first}
use Rattle.dm_layout.proofs.symbols.OuterRows.{IsOut, out_more}
use Rattle.dm_layout.proofs.symbols.Rows.{or_dark, weight}
use Rattle.dm_layout.proofs.symbols.Sizes.{column_inside}

-- ---- a part that lies across the end of the first number

-- A multiple is taken out of a quotient.
div_more : (a m b : ℕ) → 0 < m → (a * m + b) / m ≡ a + b / m
div_more a m b p =
    let parts = div-add-mod' b m in
    let e : a * m + b ≡ (a + b / m) * m + b % m = grouped a m b parts in
    ap (λ (i : ℕ). i / m) e ∙ div-mul-add (a + b / m) m (b % m) (mod-lt b p)
  where
    grouped : (a m b : ℕ) → b / m * m + b % m ≡ b → a * m + b ≡ (a + b / m) * m + b % m
    grouped a m b parts = let d : (a + b / m) * m ≡ a * m + b / m * m = omega arith in omega (arith, parts, d)

-- From column s on both numbers of a row are laid together in one.
pub across : (row end s w : ℕ) → row < 2 ^ 128 → end < 2 ^ 16 → 64 ≤ s → s < 128 → w ≤ 22 →
    bit_or (row / 2 ^ s) (end * 2 ^ (128 - s) % 2 ^ 128) % (1 * 2 ^ w % 2 ^ 128) ≡ whole_row row end / 2 ^ s % 2 ^ w
across row end s w lr le some before few =
    let k : ℕ = 128 - s in
    let sum : k + s ≡ 128 = omega (arith, before) in
    let parts : 2 ^ 128 ≡ 2 ^ k * 2 ^ s = ap (λ (i : ℕ). 2 ^ i) (sym sum) ∙ pow-add 2 k s in
    let m : 2 ^ (16 + k) ≤ 2 ^ 128 = pow_mono {j = 128} (omega (arith, some, before)) in
    let small : end * 2 ^ k < 2 ^ (16 + k) = product_below end 16 k le in
    let first : row / 2 ^ s < 2 ^ k = div_below row (2 ^ s) (2 ^ k) (pow_pos s) (subst (λ (i : ℕ). row < i) parts lr) in
    let fits : end * 2 ^ k % 2 ^ 128 ≡ end * 2 ^ k = mod-eq_of_lt (omega (arith, small, m)) in
    let joined : bit_or (row / 2 ^ s) (end * 2 ^ k % 2 ^ 128) ≡ end * 2 ^ k + row / 2 ^ s =
    ap (bit_or (row / 2 ^ s)) fits ∙ or_shifted_r end k (row / 2 ^ s) first in
    let whole : whole_row row end / 2 ^ s ≡ end * 2 ^ k + row / 2 ^ s =
    rw (parts, regroup end (2 ^ k) (2 ^ s), div_more (end * 2 ^ k) (2 ^ s) row (pow_pos s)) in
    rw (weight w (omega (arith, few)), joined, whole)
  where
    regroup : (a b c : ℕ) → a * (b * c) ≡ a * b * c
    regroup a b c = omega arith

    product_below : (x i k : ℕ) → x < 2 ^ i → x * 2 ^ k < 2 ^ (i + k)
    product_below x i k l = grind (arith, nat_tests, pow_pos, mul-le-mul_right, pow-add)

-- A part that is put behind a row is divided between its two numbers.
pub divided : (row part s : ℕ) → s < 128 → row < 2 ^ s →
    whole_row (bit_or row (part * 2 ^ s % 2 ^ 128)) (part / 2 ^ (128 - s)) ≡ part * 2 ^ s + row
divided row part s before lr =
    let k : ℕ = 128 - s in
    let sum : k + s ≡ 128 = omega (arith, before) in
    let parts : 2 ^ 128 ≡ 2 ^ k * 2 ^ s = ap (λ (i : ℕ). 2 ^ i) (sym sum) ∙ pow-add 2 k s in
    let h : ℕ = part / 2 ^ k in
    let l : ℕ = part % 2 ^ k in
    let ll : l < 2 ^ k = mod-lt part (pow_pos k) in
    let is : h * 2 ^ k + l ≡ part = div-add-mod' part (2 ^ k) in
    let e : part * 2 ^ s ≡ h * 2 ^ 128 + l * 2 ^ s =
    ap (λ (i : ℕ). i * 2 ^ s) (sym is) ∙ regroup h (2 ^ k) l (2 ^ s) ∙ ap (λ (i : ℕ). h * i + l * 2 ^ s) (sym parts) in
    let low : l * 2 ^ s < 2 ^ 128 = subst (λ (i : ℕ). l * 2 ^ s < i) (sym parts) (less l (2 ^ k) (2 ^ s) ll (pow_pos s))
    in
    let cut : part * 2 ^ s % 2 ^ 128 ≡ l * 2 ^ s =
    ap (λ (i : ℕ). i % 2 ^ 128) e ∙ mod-mul-add h (2 ^ 128) (l * 2 ^ s) low in
    let laid : bit_or row (part * 2 ^ s % 2 ^ 128) ≡ l * 2 ^ s + row =
    ap (bit_or row) cut ∙ or_shifted_r l s row lr in
    ap (λ (i : ℕ). h * 2 ^ 128 + i) laid ∙ together (h * 2 ^ 128) (l * 2 ^ s) row ∙ ap (λ (i : ℕ). i + row) (sym e)
  where
    regroup : (h a l b : ℕ) → (h * a + l) * b ≡ h * (a * b) + l * b
    regroup h a l b = omega arith

    together : (a b c : ℕ) → a + (b + c) ≡ a + b + c
    together a b c = omega arith

    less : (l a b : ℕ) → l < a → 0 < b → l * b < a * b
    less l a b h p = grind (arith, nat_tests, mul-le-mul_right)

-- What is left of the part for the second number is small.
pub left_over : (part s n : ℕ) → part < 2 ^ 22 → 100 ≤ s → s ≤ 122 → part / 2 ^ (128 - s) < 2 ^ 16
left_over part s n l some most =
    div_below part (2 ^ (128 - s)) (2 ^ 16) (pow_pos (128 - s))
    (let e : 2 ^ (16 + (128 - s)) ≡ 2 ^ 16 * 2 ^ (128 - s) = pow-add 2 16 (128 - s) in
    let m : 2 ^ 22 ≤ 2 ^ (16 + (128 - s)) = pow_mono {i = 22} (omega (arith, most)) in
    omega (arith, l, e, m))

-- A row that is no wider than 136 columns has few of them in its second number.
pub end_below : (row end n : ℕ) → n ≤ 132 → whole_row row end < 2 ^ n → end < 16
end_below row end n few l =
    let m : 2 ^ n ≤ 2 ^ 132 = pow_mono {j = 132} few in
    lt_of_mul-lt-mul_right (2 ^ 128) (below row end (2 ^ 128) (2 ^ n) l (rw (pow-add 2 4 128) at m))
  where
    below : (row end p q : ℕ) → end * p + row < q → q ≤ 16 * p → end * p < 16 * p
    below row end p q l m = omega (arith, l, m)

-- ---- the regions of such a row

-- The cells of six regions are those of the first five and of the last.
pub six_inside : (row end first w : ℕ) → 20 ≤ w → w ≤ 22 → first < 2 ^ (5 * w) →
    ((c : ℕ) → c < 5 * w → is_dark_bit first c ≡ is_dark_bit row (symbol_line w c)) →
    (c : ℕ) → c < 6 * w →
    is_dark_bit (whole_row row end / 2 ^ (5 * (w + 2) + 1) % 2 ^ w * 2 ^ (5 * w) + first) c ≡
    is_dark_bit (whole_row row end) (symbol_line w c)
six_inside row end first w least most narrow so_far c l =
    ap (λ (i : ℕ). is_dark_bit (whole_row row end / 2 ^ (5 * (w + 2) + 1) % i * 2 ^ (5 * w) + first) c)
    (sym (weight w (omega (arith, most))))
    ∙ one_more first (whole_row row end) w 5 (omega (arith, least)) (omega (arith, most)) narrow
    (λ k lk. so_far k lk ∙ sym (whole_first row end (symbol_line w k) (line_low w k least most lk))) c l
  where
    line_low : (w c : ℕ) → 20 ≤ w → w ≤ 22 → c < 5 * w → symbol_line w c < 128
    line_low w c least most l =
        let q : c / w < 5 = div_below c w 5 (omega (arith, least)) l in
        omega (arith, q, l, most)

-- They have no cell behind them.
pub six_narrow : (x first w : ℕ) → first < 2 ^ (5 * w) → x % 2 ^ w * 2 ^ (5 * w) + first < 2 ^ (6 * w)
six_narrow x first w narrow =
    let s : 5 * w + w ≡ 6 * w = omega arith in
    subst (λ (i : ℕ). x % 2 ^ w * 2 ^ (5 * w) + first < i) (sym (pow-add 2 (5 * w) w) ∙ ap (λ (i : ℕ). 2 ^ i) s)
    (mul-add-lt (x % 2 ^ w) (2 ^ (5 * w)) first (2 ^ w) (mod-lt x (pow_pos w)) narrow)

-- The outer row of six regions is that of the first five and the last one behind its border.
pub six_outside : (inner rest first w : ℕ) → 20 ≤ w → w ≤ 22 → IsOut inner w 5 first →
    IsOut (whole_row inner rest) w 6
    (whole_row inner rest / 2 ^ (5 * w) % 2 ^ w * 2 ^ (5 * (w + 2) + 1) + first)
six_outside inner rest first w least most out =
    subst (λ (i : ℕ). IsOut (whole_row inner rest) w 6
    (whole_row inner rest / 2 ^ (5 * w) % i * 2 ^ (5 * (w + 2) + 1) + first)) (weight w (omega (arith, most)))
    (out_more (whole_row inner rest) first w 5 (omega (arith, least)) (omega (arith, most)) (record {
      narrow = out.narrow;
      mapped = λ c l. out.mapped c l ∙ sym (whole_first inner rest c (omega (arith, l, most)));
      border = out.border;
    }))

-- ---- the row of the matrix that lies in a row of the symbol

-- A row of one number has nothing in the second.
pub whole_alone : (row : ℕ) → whole_row row 0 ≡ row
whole_alone row = omega arith

module _ (m : SymbolView) (row w a : ℕ) (entry : IsSize m.size) (ew : w ≡ m.size.region_columns)
    (ea : a ≡ m.size.regions_across) where
  -- Its cells are those of the modules between the borders.
  pub matrix_cells : (line inner : ℕ) →
      ((q : ℕ) → q < a * w → is_dark_bit inner q ≡ is_dark_bit line (symbol_line w q)) →
      ((q : ℕ) → q < m.size.columns → is_dark_bit line q ≡ module_at m row q) →
      (q : ℕ) → q < mapping_columns m.size →
      is_dark_bit inner q ≡ module_at m row (symbol_line m.size.region_columns q)
  matrix_cells line inner cells outer q l =
      let all : a * w ≡ mapping_columns m.size =
      ap (λ (i : ℕ). i * w) ea ∙ ap (λ (i : ℕ). m.size.regions_across * i) ew in
      cells q (omega (arith, l, all))
      ∙ ap (λ (i : ℕ). is_dark_bit line (symbol_line i q)) ew
      ∙ outer (symbol_line m.size.region_columns q) (column_inside m.size q entry l)

-- ---- rows of two numbers, laid over one another

-- A cell of one row laid over another is dark exactly if it is dark in one of them.
pub whole_or : (a x b y c : ℕ) → a < 2 ^ 128 → b < 2 ^ 128 →
    is_dark_bit (whole_row (bit_or a b) (bit_or x y)) c ≡
    (is_dark_bit (whole_row a x) c || is_dark_bit (whole_row b y) c)
whole_or a x b y c la lb = by_column (cases_lt c 128)
  where
    by_column : (c < 128) ⊎ (128 ≤ c) → is_dark_bit (whole_row (bit_or a b) (bit_or x y)) c ≡
        (is_dark_bit (whole_row a x) c || is_dark_bit (whole_row b y) c)
    by_column (inl l) =
        whole_first (bit_or a b) (bit_or x y) c l ∙ or_dark a b c
        ∙ ap (λ (t : Bool). t || is_dark_bit b c) (sym (whole_first a x c l))
        ∙ ap (λ (t : Bool). is_dark_bit (whole_row a x) c || t) (sym (whole_first b y c l))
    by_column (inr m) =
        whole_end (bit_or a b) (bit_or x y) c (or_lt 128 a b la lb) m ∙ or_dark x y (c - 128)
        ∙ ap (λ (t : Bool). t || is_dark_bit y (c - 128)) (sym (whole_end a x c la m))
        ∙ ap (λ (t : Bool). is_dark_bit (whole_row a x) c || t) (sym (whole_end b y c lb m))
