-- What holds for each size.
use Rattle.dm_layout.proofs.Names.{◌≡◌, ℕ, ◌+◌, ◌*◌, ◌/◌, ◌%◌, ◌<◌, ◌≤◌, Bool, true, false, ◌&&◌, ◌||◌, nat_eq, refl}
use Rattle.dm_layout.proofs.Names.{◌∙◌, ap, arith, not, eq-eqb, list_all, eqb-true, mul-le-mul_right, symbol_line}
use Rattle.dm_layout.proofs.Names.{SizeEntry, IsSize, mapping_rows, mapping_columns, size_table}
use Rattle.dm_layout.proofs.symbols.Exported.{size_facts, symbol_line-form, region_below}
use Rattle.dm_layout.proofs.symbols.TableEntries.{passed_at_size}

-- A line of a mapping matrix of k regions of d lines each lies in the symbol.
line_inside : (d k r : ℕ) → 6 ≤ d → r < k * d → symbol_line d r < k * (d + 2)
line_inside d k r least l =
    let form = symbol_line-form d r least in
    let p : 0 < d = omega (arith, least) in
    let m : r % d < d = omega arith in
    let below : r / d + 1 ≤ k = let h = region_below d r k least l in omega (arith, h) in
    let all : (r / d + 1) * (d + 2) ≤ k * (d + 2) = mul-le-mul_right (d + 2) below in
    let one : (r / d + 1) * (d + 2) ≡ r / d * (d + 2) + (d + 2) = omega arith in
    omega (arith, form, m, all, one)

-- Each column of the mapping matrix lies in a column of the symbol.
pub column_inside : (size : SizeEntry) (c : ℕ) → IsSize size → c < mapping_columns size →
    symbol_line size.region_columns c < size.columns
column_inside size c entry l =
    let facts = size_facts size entry in
    rw (← facts.columns) at (line_inside size.region_columns size.regions_across c facts.least_columns l)

-- A test with one of two outcomes, of which the first fails, has the second.
pub second_of : (a b : Bool) → a ≡ false → (a || b) ≡ true → b ≡ true
second_of true b e h = cc
second_of false b e h = h

-- A multiple of an even number is even.
pub even_product : (k d : ℕ) → d % 2 ≡ 0 → k * d % 2 ≡ 0
even_product k d e =
    let h : d ≡ d / 2 * 2 = omega (arith, e) in
    let m : k * (d / 2 * 2) ≡ k * (d / 2) * 2 = omega arith in
    ap (λ (x : ℕ). k * x % 2) h ∙ ap (λ (x : ℕ). x % 2) m ∙ twice (k * (d / 2))
  where
    twice : (x : ℕ) → x * 2 % 2 ≡ 0
    twice x = omega arith

-- ---- rows of regions

-- A row of regions ends within the mapping matrix.
pub region_ends : (s : SizeEntry) (region : ℕ) → region < s.regions_down → (region + 1) * s.region_rows ≤ mapping_rows s
region_ends s region l = mul-le-mul_right s.region_rows (omega (arith, l))

-- With its borders it ends within the symbol.
pub region_within : (s : SizeEntry) (region : ℕ) → IsSize s → region < s.regions_down →
    (region + 1) * (s.region_rows + 2) ≤ s.rows
region_within s region entry l =
    let facts = size_facts s entry in
    rw facts.rows (mul-le-mul_right (s.region_rows + 2) (omega (arith, l)))

-- ---- sizes with a fixed square

-- A size whose mapping matrix has a fixed square is square.
square_test : SizeEntry → Bool
square_test s =
    not (nat_eq (mapping_rows s % 4) 2 && nat_eq (mapping_columns s % 4) 2)
    || nat_eq (mapping_rows s) (mapping_columns s)

square_tested : list_all square_test size_table ≡ true
unfolding size_table square_test
square_tested = refl

-- So its mapping matrix has as many rows as columns.
pub fixed_is_square : (s : SizeEntry) → IsSize s → mapping_rows s % 4 ≡ 2 → mapping_columns s % 4 ≡ 2 →
    mapping_rows s ≡ mapping_columns s
unfolding square_test
fixed_is_square s entry rows columns =
    eqb-true _ _ (second_of (not (nat_eq (mapping_rows s % 4) 2 && nat_eq (mapping_columns s % 4) 2)) _
    (rw (eq-eqb, eq-eqb)) (passed_at_size square_test s square_tested entry))
