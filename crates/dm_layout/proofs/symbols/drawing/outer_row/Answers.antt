use Rattle.dm_layout.proofs.Names.{ℕ, ◌+◌, ◌*◌, ◌%◌, ◌^◌, ◌<◌, ◌≤◌, get_or, subst, sym, ◌∙◌, arith, pow_pos, mod_below}
use Rattle.dm_layout.proofs.Names.{wide_matrix}
use Rattle.std.proofs.Common.{bit_and}
use Rattle.dm_layout.proofs.symbols.OuterRows.{IsNext, opened_first, opened_more, opened_all}
use Rattle.dm_layout.proofs.symbols.Rows.{weight, prefix_cell}
use Rattle.std.proofs.lemmas.Grind.{common_steps, widths}
use Rattle.dm_layout.proofs.symbols.drawing.outer_row.Goals as goal
use Rattle.dm_layout.proofs.symbols.drawing.outer_row.Goals.{In-loop-region}

-- The prefix of a row has no column from its width on.
prefix_narrow : (x n : ℕ) → n ≤ wide_matrix → x % (1 * 2 ^ n % 2 ^ 128) < 2 ^ n
prefix_narrow x n most =
    subst (λ (i : ℕ). x % i < 2 ^ n) (sym (weight n (omega (arith, most)))) (mod_below x (2 ^ n) (pow_pos n))

pub loop-region-init : goal.loop-region-init
loop-region-init c =
    let n : ℕ = c.args.across * c.args.region_columns in
    record {
      opened = opened_first _ c.args.region_columns n c.requires.fits (prefix_narrow c.args.inner n c.requires.fits);
    }

-- One more region stands between its borders.
next : (c : In-loop-region) → IsNext (c.args.inner % (1 * 2 ^ (c.args.across * c.args.region_columns) % 2 ^ 128))
    c.args.region_columns c.loop-region.region c.loop-region.outer
    (bit_and c.loop-region.outer (get_or c.args.prefixes.now c.loop-region.region 0))
next c =
    let a : ℕ = c.loop-region.region in
    let l : a + 1 < c.args.across = omega (arith, c.loop-region-test.true) in
    opened_more _ c.args.region_columns a c.args.across c.loop-region.outer (get_or c.args.prefixes.now a 0)
    c.requires.least c.requires.wide l c.requires.fits
    (prefix_narrow c.args.inner (c.args.across * c.args.region_columns) c.requires.fits)
    c.loop-region.invariant.opened (c.requires.prefixes a l)

pub overflow_add-outer : goal.overflow_add-outer
overflow_add-outer c =
    let n = next (goal.at.overflow_add-outer c).In-loop-region in
    omega (arith, n.fits)

pub loop-region-preserved : goal.loop-region-preserved
loop-region-preserved c = record { opened = (next (goal.at.loop-region-preserved c).In-loop-region).next }

pub returns : goal.returns
returns c =
    let n : ℕ = c.args.across * c.args.region_columns in
    let out =
    opened_all (c.args.inner % (1 * 2 ^ n % 2 ^ 128)) c.args.region_columns c.loop-region.region c.args.across
    c.loop-region.outer c.requires.least
    (omega (arith, c.loop-region-test.false, c.loop-region.auto.region-end, c.requires.some)) c.requires.fits
    (prefix_narrow c.args.inner n c.requires.fits) c.loop-region.invariant.opened in
    record {
      mapped = λ q l. out.mapped q l ∙ prefix_cell c.args.inner n q (omega (arith, c.requires.fits)) l;
      border = out.border;
      width = out.narrow;
    }

pub overflow_sub-outer : goal.overflow_sub-outer
overflow_sub-outer c = grind (arith, common_steps, widths)
