-- Rows and columns of the mapping matrix in the symbol: lines of k regions of d lines each.
use Rattle.dm_layout.proofs.Names.{nat_tests, ◌≡◌, ◌≢◌, ℕ, ◌+◌, ◌-◌, ◌*◌, ◌/◌, ◌%◌, ◌<◌, ◌≤◌, Bool, true, false, nat_eq}
use Rattle.dm_layout.proofs.Names.{nat_lt, refl, sym, ◌∙◌, ap, subst, arith, eqb-false, ne_eqb, ltb-true, ltb-false}
use Rattle.dm_layout.proofs.Names.{div-mul-add, mod-mul-add, mul-le-mul_right, SizeEntry, IsSize, mapping_rows}
use Rattle.dm_layout.proofs.Names.{mapping_columns, is_on_edge, symbol_line, is_border, mapping_line}
use Rattle.std.proofs.lemmas.Bool.{or_parts}
use Rattle.dm_layout.proofs.symbols.TableEntries.{size_facts}

-- A line of the mapping matrix lies in the lines of its region with its border, one line further than in the region
-- itself.
pub symbol_line-form : (d r : ℕ) → 6 ≤ d → symbol_line d r ≡ r / d * (d + 2) + (r % d + 1)
symbol_line-form d r h = let p : 0 < d = omega arith in omega arith

-- A line of the mapping matrix has, in its region with its border, a place one further than in its region.
pub symbol_line-mod : (d r : ℕ) → 6 ≤ d → symbol_line d r % (d + 2) ≡ r % d + 1
symbol_line-mod d r h = grind (arith, nat_tests, symbol_line-form, mod-mul-add)

-- A line of the mapping matrix lies in its own region.
pub symbol_line-div : (d r : ℕ) → 6 ≤ d → symbol_line d r / (d + 2) ≡ r / d
symbol_line-div d r h = grind (arith, nat_tests, symbol_line-form, div-mul-add)

-- A line of the mapping matrix is found again from the line of the symbol in which it lies.
pub mapping_line-symbol_line : (d r : ℕ) → 6 ≤ d → mapping_line d (symbol_line d r) ≡ r
mapping_line-symbol_line d r h = let e = symbol_line-div d r h in omega (arith, e)

-- Two different lines of the mapping matrix lie in different lines of the symbol.
pub symbol_line-one : (d r s : ℕ) → 6 ≤ d → symbol_line d r ≡ symbol_line d s → r ≡ s
symbol_line-one d r s h e =
    sym (mapping_line-symbol_line d r h) ∙ ap (mapping_line d) e ∙ mapping_line-symbol_line d s h

-- A number is below another if its not being so is refuted.
lt_cases : (a k : ℕ) (b : Bool) → nat_lt a k ≡ b → (k ≤ a → ⊥) → a < k
lt_cases a k true e f = ltb-true a k e
lt_cases a k false e f = absurd (f (ltb-false a k e))

-- A quotient is below k where the number is below k times the divisor.
below_by : (a k d m : ℕ) → a * d + m < k * d → a < k
below_by a k d m l =
    lt_cases a k (nat_lt a k) refl (λ g. let h : k * d ≤ a * d = mul-le-mul_right d g in omega (arith, h))

-- A line within k regions of d lines lies in one of these regions.
pub region_below : (d r k : ℕ) → 6 ≤ d → r < k * d → r / d < k
region_below d r k h l = grind (arith, nat_tests, below_by)

-- Each line of k regions of d lines lies within these regions with their borders.
pub line_inside : (d k r : ℕ) → 6 ≤ d → r < k * d → symbol_line d r < k * (d + 2)
line_inside d k r h l = grind (arith, nat_tests, region_below, symbol_line-form, mul-le-mul_right)

-- A line of the symbol holds a line of the mapping matrix, in k regions of d lines.
pub record ComesFrom (d k line : ℕ) : Type 0 where
  pub inside : mapping_line d line < k * d
  pub there : symbol_line d (mapping_line d line) ≡ line

-- Each line of the symbol that is neither first nor last in its region with its border holds a line of the mapping
-- matrix.
pub comes_from : (d k line : ℕ) → 6 ≤ d → line < k * (d + 2) → line % (d + 2) ≢ 0 → line % (d + 2) ≢ d + 1 →
    ComesFrom d k line
comes_from d k line h l first last =
    let p : 0 < d + 2 = omega arith in
    let q : ℕ = line / (d + 2) in
    let m : ℕ = line % (d + 2) in
    let w : line ≡ q * (d + 2) + m = omega arith in
    let m_in : m < d + 2 = omega arith in
    let m_low : 1 ≤ m = omega arith in
    let m_high : m ≤ d = omega arith in
    let r_is : mapping_line d line ≡ q * d + (m - 1) = omega arith in
    let small : m - 1 < d = omega arith in
    let r_div : mapping_line d line / d ≡ q = ap (λ (x : ℕ). x / d) r_is ∙ div-mul-add q d (m - 1) small in
    let w_in : q * (d + 2) + m < k * (d + 2) = omega arith in
    let q_in : q < k = below_by q k (d + 2) m w_in in
    let v : (q + 1) * d ≤ k * d = mul-le-mul_right d (omega arith) in
    record {
      inside = omega (arith, r_is, v);
      there = omega (arith, r_is, r_div);
    }

-- ---- the lines of a size

-- Each row of the mapping matrix lies in a row of the symbol.
pub row_inside : (size : SizeEntry) (r : ℕ) → IsSize size → r < mapping_rows size →
    symbol_line size.region_rows r < size.rows
row_inside size r entry l =
    let facts = size_facts size entry in
    rw (← facts.rows) at (line_inside size.region_rows size.regions_down r facts.least_rows l)

-- Each column of it lies in a column of the symbol.
pub column_inside : (size : SizeEntry) (c : ℕ) → IsSize size → c < mapping_columns size →
    symbol_line size.region_columns c < size.columns
column_inside size c entry l =
    let facts = size_facts size entry in
    rw (← facts.columns) at (line_inside size.region_columns size.regions_across c facts.least_columns l)

-- A module between the first and the last lines of a region with its border doesn't lie on its edge.
on_no_edge : (d e i j a b : ℕ) → i < d → j < e → a ≡ i + 1 → b ≡ j + 1 → is_on_edge d e a b ≡ false
on_no_edge d e i j a b li lj f g = grind (arith, nat_tests, ne_eqb)

-- A cell of the mapping matrix lies on no border, if regions have so many rows and columns.
pub off_edge : (size : SizeEntry) (r c : ℕ) → 6 ≤ size.region_rows → 6 ≤ size.region_columns →
    is_border size (symbol_line size.region_rows r) (symbol_line size.region_columns c) ≡ false
off_edge size r c rows columns = grind (arith, nat_tests, on_no_edge, symbol_line-mod)

-- So it lies on no border of a symbol.
pub no_border : (size : SizeEntry) (r c : ℕ) → IsSize size →
    is_border size (symbol_line size.region_rows r) (symbol_line size.region_columns c) ≡ false
no_border size r c entry =
    let facts = size_facts size entry in
    off_edge size r c facts.least_rows facts.least_columns

-- A module of the symbol that lies on no border is in a row and a column that hold lines of the mapping matrix.
pub off_border : (size : SizeEntry) (row column : ℕ) → IsSize size → row < size.rows → column < size.columns →
    is_border size row column ≡ false →
    ComesFrom size.region_rows size.regions_down row × ComesFrom size.region_columns size.regions_across column
off_border size row column entry l k h =
    let facts = size_facts size entry in
    let d : ℕ = size.region_rows in
    let e : ℕ = size.region_columns in
    let a = or_parts _ (nat_eq (column % (e + 2)) (e + 1)) h in
    let b = or_parts _ (nat_eq (row % (d + 2)) 0) a.0 in
    let c = or_parts (nat_eq (column % (e + 2)) 0) (nat_eq (row % (d + 2)) (d + 1)) b.0 in (
      comes_from d size.regions_down row facts.least_rows (subst (λ (n : ℕ). row < n) facts.rows l) (eqb-false _ _ b.1)
          (eqb-false _ _ c.1),
      comes_from e size.regions_across column facts.least_columns (subst (λ (n : ℕ). column < n) facts.columns k)
          (eqb-false _ _ c.0) (eqb-false _ _ a.1),
    )
