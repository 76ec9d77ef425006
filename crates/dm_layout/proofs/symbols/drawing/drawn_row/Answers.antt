use Rattle.dm_layout.proofs.Names.{◌≡◌, ℕ, ◌+◌, ◌-◌, ◌*◌, ◌/◌, ◌%◌, ◌^◌, ◌<◌, ◌≤◌, nat_eq, List, get_or, ap, ◌∙◌, arith}
use Rattle.dm_layout.proofs.Names.{mul-le-mul_right, mod-mul-add, div-mul-add, SizeEntry, mapping_rows, mapping_line}
use Rattle.dm_layout.proofs.Names.{look_in, whole_row, is_dark_bit}
use Rattle.dm_layout.proofs.symbols.DrawnRows.{between_row, dark_row}
use Rattle.dm_layout.proofs.symbols.LongRows.{whole_or}
use Rattle.dm_layout.proofs.symbols.Rows.{moved_bit}
use Rattle.dm_layout.proofs.symbols.LongSizes.{matrix_fits}
use Rattle.dm_layout.proofs.symbols.Sizes.{region_within}
use Rattle.dm_layout.proofs.symbols.WidenedRows.{low_bit}
use Rattle.dm_layout.proofs.symbols.drawing.drawn_row.Goals as goal

-- The row of the mapping matrix is one of those of the regions.
line_inside : (s : SizeEntry) (region d inner : ℕ) → d ≡ s.region_rows → region < s.regions_down → 1 ≤ inner →
    inner ≤ s.region_rows → region * d + inner - 1 < mapping_rows s
line_inside s region d inner e l some most =
    let m : (region + 1) * s.region_rows ≤ s.regions_down * s.region_rows =
    mul-le-mul_right s.region_rows (omega (arith, l)) in
    let t : (region + 1) * s.region_rows ≡ region * s.region_rows + s.region_rows = omega arith in
    let u : region * d ≡ region * s.region_rows = ap (λ (i : ℕ). region * i) e in
    omega (arith, m, t, u, some, most)

pub returns : goal.returns
returns g c = λ q l.
    let size : SizeEntry = c.args.size in
    let region : ℕ = c.args.region in
    let inner : ℕ = c.args.inner in
    let d : ℕ = c.region_rows.result in
    let row : ℕ = region * (size.region_rows + 2) + inner in
    let line : ℕ = region * d + inner - 1 in
    let rows : List ℕ = g.R.BitRows.numbers c.args.rows.now in
    let dark : ℕ = whole_row c.dark-dark.result.0 c.dark-dark.result.1 in
    let outer : ℕ = whole_row c.symbol_row_of-outer.result.0 c.symbol_row_of-outer.result.1 in
    let cells : ℕ = whole_row c.inner-cells.result.0 c.inner-cells.result.1 in
    let small : inner < size.region_rows + 2 = omega (arith, c.requires.above) in
    let rem : row % (size.region_rows + 2) ≡ inner = mod-mul-add region (size.region_rows + 2) inner small in
    let quot : row / (size.region_rows + 2) ≡ region = div-mul-add region (size.region_rows + 2) inner small in
    let within = region_within size region c.requires.entry c.requires.region in
    let next : (region + 1) * (size.region_rows + 2) ≡ region * (size.region_rows + 2) + (size.region_rows + 2) =
    omega arith in
    let below : row < size.rows = omega (arith, within, next, small) in
    let is =
    dark_row size region inner dark q small
    ((rw c.requires.borders at c.dark-dark.ensures.cells) q l) in
    let twice : region * (size.region_rows + 2) ≡ region * size.region_rows + 2 * region = omega arith in
    let ed : region * d ≡ region * size.region_rows = ap (λ (i : ℕ). region * i) c.region_rows.ensures.value in
    let there : line ≡ mapping_line size.region_rows row = omega (arith, quot, twice, ed, c.requires.below) in
    whole_or c.dark-dark.result.0 c.dark-dark.result.1 c.symbol_row_of-outer.result.0 c.symbol_row_of-outer.result.1 q
    c.dark-dark.type_inv.1.1.0.1 c.symbol_row_of-outer.type_inv.1.1.0.1
    ∙ between_row size (λ i j. look_in rows (i + 2) (j + 4)) row q dark outer cells c.requires.entry below l
    (λ e. omega (arith, e, rem, c.requires.below)) (λ e. omega (arith, e, rem, c.requires.above))
    is c.symbol_row_of-outer.ensures.mapped c.symbol_row_of-outer.ensures.border
    (λ k lk.
    let four : 4 + k ≡ k + 4 = omega arith in
    let few = matrix_fits size c.requires.entry in
    ap (λ (x : ℕ). is_dark_bit x k) c.inner-cells.ensures
    ∙ low_bit (get_or rows (line + 2) 0 / 2 ^ 4) 136 k (omega (arith, lk, few))
    ∙ ap (λ (i : ℕ). nat_eq i 1) (moved_bit (get_or rows (line + 2) 0) 4 k)
    ∙ ap (look_in rows (line + 2)) four
    ∙ ap (λ (i : ℕ). look_in rows (i + 2) (k + 4)) there)
