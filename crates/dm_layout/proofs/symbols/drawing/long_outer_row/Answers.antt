use Rattle.dm_layout.proofs.Names.{ℕ, ◌+◌, ◌*◌, ◌/◌, ◌%◌, ◌^◌, ◌≤◌, ap, ◌∙◌, sym, subst, arith, mod-lt, pow_mono}
use Rattle.dm_layout.proofs.Names.{pow_pos, whole_row}
use Rattle.dm_layout.proofs.symbols.LongRows.{six_outside}
use Rattle.dm_layout.proofs.symbols.OuterRows.{IsOut}
use Rattle.dm_layout.proofs.symbols.drawing.long_outer_row.Goals as goal
use Rattle.dm_layout.proofs.symbols.drawing.long_outer_row.Goals.{After-with_part}

-- The row is that of six regions between their borders.
is_out : (c : After-with_part) →
    IsOut (whole_row c.args.inner c.args.rest) c.args.region_columns 6
    (whole_row c.with_part.result.0 c.with_part.result.1)
is_out c =
    let w : ℕ = c.args.region_columns in
    subst (IsOut (whole_row c.args.inner c.args.rest) w 6)
    (sym (c.with_part.ensures
    ∙ ap (λ (i : ℕ). i * 2 ^ (5 * (w + 2) + 1) + c.outer_row-first.result) (c.part_across-last.ensures
    ∙ ap (λ (i : ℕ). whole_row c.args.inner i / 2 ^ (5 * w) % 2 ^ w) c.from.ensures)))
    (six_outside c.args.inner c.args.rest c.outer_row-first.result w c.requires.least c.requires.most (record {
      narrow = c.outer_row-first.ensures.width;
      mapped = c.outer_row-first.ensures.mapped;
      border = c.outer_row-first.ensures.border;
    }))

pub with_part-requires-clause-part : goal.with_part-requires-clause-part
with_part-requires-clause-part c =
    let l =
    mod-lt (whole_row c.args.inner c.from.result / 2 ^ (5 * c.args.region_columns)) (pow_pos c.args.region_columns) in
    let m : 2 ^ c.args.region_columns ≤ 2 ^ 22 = pow_mono {j = 22} c.requires.most in
    omega (arith, l, m, c.part_across-last.ensures)

pub returns-clause-mapped : goal.returns-clause-mapped
returns-clause-mapped c = (is_out c).mapped

pub returns-clause-border : goal.returns-clause-border
returns-clause-border c = (is_out c).border
