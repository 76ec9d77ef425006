-- Border modules of the wrong colour that aren't doubtful, counted as bits.
use Rattle.dm_layout.proofs.Names.{nat_tests, ◌≡◌, ◌⊎◌, inl, inr, ℕ, zero, suc, ◌+◌, ◌-◌, ◌*◌, ◌%◌, ◌^◌, ◌<◌, ◌≤◌, Bool}
use Rattle.dm_layout.proofs.Names.{true, false, not, ◌&&◌, nat_eq, refl, sym, ◌∙◌, ap, subst, Option, arith, ◌/◌, Some}
use Rattle.dm_layout.proofs.Names.{None, count_by, count_ones, min, IfSome, beq, bit_at, w128, bit_and, range_with_len}
use Rattle.dm_layout.proofs.Names.{mul-le-mul_right, pow_mono, cases_lt, sum_by_push, and_le_l, and_le_r, div-add-mod'}
use Rattle.dm_layout.proofs.Names.{mod-mul-add, ones-le, ones_cat, bit_at_and, bit_at-lt, is_on_edge, edge_is_dark}
use Rattle.dm_layout.proofs.Names.{range-append, is_border, border_is_dark, SymbolView, module_at, is_dark_bit}
use Rattle.dm_layout.proofs.Names.{SizeEntry, is_sure_fault, sure_faults_in, whole_row}
use Rattle.std.specs.Int.{bit_not}
use Rattle.std.specs.Int.RustNames.{bit_xor}
use Rattle.std.proofs.lemmas.List.Sums.{sum_by-append}
use Rattle.std.proofs.lemmas.Nat.Bits.{bit_at_xor, bit_at_not}
use Rattle.dm_layout.specs.symbols.SureFaults.{is_doubtful}
use Rattle.dm_layout.specs.symbols.inner.BorderMasks.{sure_part}
use Rattle.dm_layout.proofs.symbols.DarkCells.{counted_ones}
use Rattle.dm_layout.proofs.symbols.KeptRows.{whole_end, whole_first}

-- Of three binary digits, the exclusive or of two, masked by the third,
-- is 1 exactly where the third is 1 and the two differ.
differ : (x y m : ℕ) → x < 2 → y < 2 → m < 2 → nat_eq (min ((x + y) % 2) m) 1 ≡ nat_eq m 1
    && not (beq (nat_eq x 1) (nat_eq y 1))
differ x y m a b c = grind (arith, nat_tests)

-- The masked difference of two rows is 1 exactly at the columns of the mask where the rows differ.
wrong_cell : (row dark mask c : ℕ) → is_dark_bit (bit_and (bit_xor row dark) mask) c ≡ is_dark_bit mask c
    && not (beq (is_dark_bit row c) (is_dark_bit dark c))
wrong_cell row dark mask c = grind (arith, nat_tests, bit_at_and, min, bit_at_xor, differ, bit_at-lt)

-- Whether a border cell is wrong depends on the row of colours at border cells alone.
masked : (border there dark : Bool) → border && not (beq there (border && dark)) ≡ border && not (beq there dark)
masked true there dark = refl
masked false there dark = refl

-- Of two binary digits, the first masked by the opposite of the second is 1 exactly where the first is 1 and the second
-- isn't.
masked_out : (x y : ℕ) → x < 2 → y < 2 → nat_eq (min x (1 - y)) 1 ≡ nat_eq x 1 && not (nat_eq y 1)
masked_out x y a b = grind (arith, nat_tests)

-- Where the dark cells of a second row are left out of a row, a cell is dark if it was and isn't dark in the second.
but_cell : (row doubtful c : ℕ) → doubtful < 2 ^ 128 → c < 128 →
    is_dark_bit (bit_and row (bit_not w128 doubtful)) c ≡ is_dark_bit row c && not (is_dark_bit doubtful c)
but_cell row doubtful c low l =
    ap (λ (i : ℕ). nat_eq i 1) (bit_at_and row (bit_not w128 doubtful) c
    ∙ ap (λ (i : ℕ). min (bit_at row c) i) (bit_at_not w128 doubtful c low l))
    ∙ masked_out (bit_at row c) (bit_at doubtful c) (bit_at-lt row c) (bit_at-lt doubtful c)

-- The sure wrong modules of a part of a row are some of the mask.
pub sure_few : (row dark mask doubtful : ℕ) → sure_part row dark mask doubtful ≤ mask
sure_few row dark mask doubtful = grind (arith, nat_tests, and_le_l, bit_and, and_le_r)

-- A cell of them is a border fault of which there is no doubt.
sure_cell : (m : SymbolView) (D : Option SymbolView) (r q row dark mask doubtful c : ℕ) → doubtful < 2 ^ 128 →
    c < 128 → is_dark_bit row c ≡ module_at m r q → is_dark_bit doubtful c ≡ is_doubtful D r q →
    is_dark_bit mask c ≡ is_border m.size r q → is_dark_bit dark c ≡ (is_border m.size r q && border_is_dark m.size r q)
    →
    is_dark_bit (sure_part row dark mask doubtful) c ≡ is_sure_fault m D r q
sure_cell m D r q row dark mask doubtful c low l here doubt border colour =
    rw (but_cell, wrong_cell, border, colour, masked, here, doubt)

-- A row of a symbol, its first 128 modules and those behind them, with their border colours, the mask of its borders,
-- and the doubtful modules.
pub record IsLine (m : SymbolView) (D : Option SymbolView) (r row end dark dark_end mask mask_end doubt doubt_end : ℕ)
    :
    Type 0 where
  pub dark_fits : dark < 2 ^ 128
  pub mask_fits : mask < 2 ^ 128
  pub doubt_fits : doubt < 2 ^ 128
  pub doubt_end_fits : doubt_end < 2 ^ 128
  pub first : (c : ℕ) → c < 128 → c < m.size.columns → is_dark_bit row c ≡ module_at m r c
  pub behind : (c : ℕ) → 128 + c < m.size.columns → is_dark_bit end c ≡ module_at m r (128 + c)
  pub doubt_first : (c : ℕ) → c < 128 → c < m.size.columns → is_dark_bit doubt c ≡ is_doubtful D r c
  pub doubt_behind : (c : ℕ) → 128 + c < m.size.columns → is_dark_bit doubt_end c ≡ is_doubtful D r (128 + c)
  pub border : (c : ℕ) → c < m.size.columns → is_dark_bit (whole_row mask mask_end) c ≡ is_border m.size r c
  pub colours : (c : ℕ) → c < m.size.columns → is_dark_bit (whole_row dark dark_end) c ≡
      (is_border m.size r c && border_is_dark m.size r c)
  pub narrow : whole_row mask mask_end < 2 ^ m.size.columns
  pub columns : m.size.columns ≤ 144

module _ (m : SymbolView) (D : Option SymbolView) (r row end dark dark_end mask mask_end doubt doubt_end : ℕ)
    (line : IsLine m D r row end dark dark_end mask mask_end doubt doubt_end) where
  abbrev a : ℕ
  a = sure_part row dark mask doubt

  abbrev b : ℕ
  b = sure_part end dark_end mask_end doubt_end

  -- There is none past the end of the row.
  sure_narrow : whole_row a b < 2 ^ m.size.columns
  sure_narrow =
      let x = sure_few row dark mask doubt in
      let y = mul-le-mul_right (2 ^ 128) (sure_few end dark_end mask_end doubt_end) in
      less mask (mask_end * 2 ^ 128) a (b * 2 ^ 128) x y line.narrow
    where
      less : (p q s t : ℕ) → s ≤ p → t ≤ q → q + p < 2 ^ m.size.columns → t + s < 2 ^ m.size.columns
      less p q s t x y l = omega (arith, x, y, l)

  -- Both parts have as many ones as the row as a whole.
  whole_ones : count_ones (whole_row a b) ≡ count_ones b + count_ones a
  whole_ones =
      ones_cat 128 b a (let x = sure_few row dark mask doubt in omega (arith, x, line.mask_fits))

  -- The surely wrong border modules of both parts are the sure border faults of the row.
  pub sure_count : count_ones a + count_ones b ≡ count_by (is_sure_fault m D r) (range_with_len 0 m.size.columns)
  sure_count =
      let whole = whole_ones in
      let turned : count_ones a + count_ones b ≡ count_ones (whole_row a b) = omega (arith, whole) in
      turned ∙ counted_ones m.size.columns (whole_row a b) (is_sure_fault m D r) sure_narrow (λ c l.
      by_column c l (cases_lt c 128))
    where
      by_column : (c : ℕ) → c < m.size.columns → (c < 128) ⊎ (128 ≤ c) →
          is_dark_bit (whole_row a b) c ≡ is_sure_fault m D r c
      by_column c l (inl lc) =
          whole_first a b c lc
          ∙ sure_cell m D r c row dark mask doubt c line.doubt_fits lc (line.first c lc l) (line.doubt_first c lc l)
          (sym (whole_first mask mask_end c lc) ∙ line.border c l)
          (sym (whole_first dark dark_end c lc) ∙ line.colours c l)
      by_column c l (inr far) =
          let q : ℕ = c - 128 in
          let e : 128 + q ≡ c = omega (arith, far) in
          let small : a < 2 ^ 128 = let x = sure_few row dark mask doubt in omega (arith, x, line.mask_fits) in
          whole_end a b c small far
          ∙ sure_cell m D r c end dark_end mask_end doubt_end q line.doubt_end_fits
          (omega (arith, l, far, line.columns))
          (line.behind q (omega (arith, l, e)) ∙ ap (module_at m r) e)
          (line.doubt_behind q (omega (arith, l, e)) ∙ ap (is_doubtful D r) e)
          (sym (whole_end mask mask_end c line.mask_fits far) ∙ line.border c l)
          (sym (whole_end dark dark_end c line.dark_fits far) ∙ line.colours c l)

  -- There are no more than the row has modules.
  pub sure_most : count_ones a + count_ones b ≤ 144
  sure_most =
      let whole = whole_ones in
      let few = ones-le m.size.columns (whole_row a b) sure_narrow in
      omega (arith, whole, few, line.columns)

  -- In a row of at most 128 columns the first part has all of them.
  pub short_count : m.size.columns ≤ 128 →
      count_ones a ≡ count_by (is_sure_fault m D r) (range_with_len 0 m.size.columns)
  short_count few =
      let none : count_ones b ≤ 0 = ones-le 0 b (nothing mask mask_end b (pow_mono {j = 128} few) line.narrow
      (sure_few end dark_end mask_end doubt_end)) in
      let all = sure_count in
      let alone : count_ones a ≡ count_ones a + count_ones b = omega (arith, none) in
      alone ∙ all
    where
      nothing : (p q b : ℕ) → 2 ^ m.size.columns ≤ 2 ^ 128 → q * 2 ^ 128 + p < 2 ^ m.size.columns → b ≤ q → b < 2 ^ 0
      nothing p zero b m l s = omega (arith, s)
      nothing p (suc q) b m l s = absurd (omega (arith, m, l))

-- ---- the borders and the doubtful modules of a row

module _ (m : SymbolView) (r inner x : ℕ) (s : SizeEntry) (es : s ≡ m.size)
    (ei : inner ≡ r % (m.size.region_rows + 2)) where
  -- The border cells of a row inside a region with its border are those of the row of the symbol.
  pub border_by : ((c : ℕ) → c < s.columns →
      is_dark_bit x c ≡ is_on_edge s.region_rows s.region_columns inner (c % (s.region_columns + 2))) →
      (c : ℕ) → c < m.size.columns → is_dark_bit x c ≡ is_border m.size r c
  border_by cells =
      rw (es, ei) at cells

  -- So are those that are to be dark.
  pub colours_by : ((c : ℕ) → c < s.columns →
      is_dark_bit x c ≡ (is_on_edge s.region_rows s.region_columns inner (c % (s.region_columns + 2))
      && edge_is_dark s.region_rows inner (c % (s.region_columns + 2)))) →
      (c : ℕ) → c < m.size.columns → is_dark_bit x c ≡ (is_border m.size r c && border_is_dark m.size r c)
  colours_by cells =
      rw (es, ei) at cells

-- A column of a symbol is one of the doubtful modules, if these are of its size.
pub some_wide : (o : Option SymbolView) (size : SizeEntry) (c : ℕ) → IfSome o (λ d. d.size ≡ size) →
    c < size.columns → IfSome o (λ d. c < d.size.columns)
some_wide None size c h l = tt
some_wide (Some d) size c h l = subst (λ (s : SizeEntry). c < s.columns) (sym h) l

-- ---- rows of faults

-- The sure border faults in some rows and the next one are those in these rows and those in that one.
pub faults_more : (m : SymbolView) (D : Option SymbolView) (first rows : ℕ) →
    sure_faults_in m D first (rows + 1) ≡
    sure_faults_in m D first rows + count_by (is_sure_fault m D (first + rows)) (range_with_len 0 m.size.columns)
faults_more m D first rows = grind (arith, nat_tests, range-append, sum_by_push)

-- Those above some rows, and those in these rows, are those above the row behind them.
pub faults_joined : (m : SymbolView) (D : Option SymbolView) (first rows : ℕ) →
    sure_faults_in m D 0 (first + rows) ≡ sure_faults_in m D 0 first + sure_faults_in m D first rows
faults_joined m D first rows = grind (arith, nat_tests, range-append, sum_by-append)

-- A row of a row of regions has its place in it, if that begins with a whole region.
pub row_inside : (s first inner : ℕ) → first % s ≡ 0 → inner < s → inner ≡ (first + inner) % s
row_inside s first inner e l =
    let whole : first / s * s + first % s ≡ first = div-add-mod' first s in
    let is : first + inner ≡ first / s * s + inner = omega (arith, whole, e) in
    sym (ap (λ (i : ℕ). i % s) is ∙ mod-mul-add (first / s) s inner l)
