use Rattle.dm_layout.proofs.Names.{◌≡◌, ℕ, ◌+◌, ◌*◌, ◌/◌, ◌%◌, ◌^◌, ◌<◌, ◌≤◌, ap, ◌∙◌, arith, mod-lt, pow_mono, pow_pos}
use Rattle.dm_layout.proofs.Names.{is_dark_bit, whole_row}
use Rattle.dm_layout.proofs.symbols.LongRows.{end_below, six_inside, six_narrow}
use Rattle.dm_layout.proofs.symbols.widened.long_inner_row.Goals as goal
use Rattle.dm_layout.proofs.symbols.widened.long_inner_row.Goals.{After-with_part-inner}

-- The row of the matrix is that of five regions and the last one behind them.
is_six : (c : After-with_part-inner) →
    whole_row c.with_part-inner.result.0 c.with_part-inner.result.1 ≡
    whole_row c.args.row c.args.end / 2 ^ (5 * (c.args.region_columns + 2) + 1) % 2 ^ c.args.region_columns * 2 ^ (5 *
    c.args.region_columns) + c.inner_row-first.result
is_six c =
    rw (c.with_part-inner.ensures, c.part_across-last.ensures)

-- It is no wider than the matrix.
narrow : (c : After-with_part-inner) →
    whole_row c.with_part-inner.result.0 c.with_part-inner.result.1 < 2 ^ (6 * c.args.region_columns)
narrow c =
    rw (← is_six c) at (six_narrow (whole_row c.args.row c.args.end / 2 ^ (5 * (c.args.region_columns + 2) + 1))
    c.inner_row-first.result c.args.region_columns c.inner_row-first.ensures.width)

pub with_part-inner-requires-clause-part : goal.with_part-inner-requires-clause-part
with_part-inner-requires-clause-part c =
    let l =
    mod-lt (whole_row c.args.row c.args.end / 2 ^ (5 * (c.args.region_columns + 2) + 1)) (pow_pos c.args.region_columns)
    in
    let m : 2 ^ c.args.region_columns ≤ 2 ^ 22 = pow_mono {j = 22} c.requires.most in
    omega (arith, l, m, c.part_across-last.ensures)

pub overflow_cast-result : goal.overflow_cast-result
overflow_cast-result c =
    let l =
    end_below c.with_part-inner.result.0 c.with_part-inner.result.1 (6 * c.args.region_columns)
    (omega (arith, c.requires.most)) (narrow c) in
    record { fits = omega (arith, l) }

pub returns-clause-cells : goal.returns-clause-cells
returns-clause-cells c = λ q l.
    ap (λ (i : ℕ). is_dark_bit i q) (is_six c)
    ∙ six_inside c.args.row c.args.end c.inner_row-first.result c.args.region_columns c.requires.least c.requires.most
    c.inner_row-first.ensures.width c.inner_row-first.ensures.cells q l

pub returns-clause-width : goal.returns-clause-width
returns-clause-width c = narrow c
