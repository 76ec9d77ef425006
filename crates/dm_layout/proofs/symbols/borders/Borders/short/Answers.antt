use Rattle.dm_layout.proofs.Names.{ℕ, ◌+◌, ap, arith, pow_pos, SizeEntry}
use Rattle.dm_layout.proofs.symbols.LongSizes.{short_size}
use Rattle.dm_layout.proofs.symbols.Rows.{weight}
use Rattle.dm_layout.proofs.symbols.SizeBorders.{short_borders}
use Rattle.dm_layout.proofs.symbols.borders.Borders.short.Goals as goal

pub overflow_shl-all : goal.overflow_shl-all
overflow_shl-all c =
    let few = short_size c.args.size c.columns-columns.ensures.size c.requires in
    omega (arith, few, c.columns-columns.ensures.value)

pub overflow_sub-all : goal.overflow_sub-all
overflow_sub-all c =
    let few = short_size c.args.size c.columns-columns.ensures.size c.requires in
    let w = weight c.columns-columns.result (omega (arith, few, c.columns-columns.ensures.value)) in
    let p = pow_pos c.columns-columns.result in
    omega (arith, w, p)

pub invariant_of-result : goal.invariant_of-result
invariant_of-result c =
    let s : SizeEntry = c.args.size in
    let few = short_size s c.columns-columns.ensures.size c.requires in
    short_borders s (c.region_rows.result + 1) (c.region_columns-last.result + 1) c.regions_across.result
    c.ruled-left.result.0 c.ruled-left.result.1 c.columns-columns.result c.columns-columns.ensures.size (omega (
      arith,
      few,
    ))
    (ap (λ (i : ℕ). i + 1) c.region_rows.ensures.value) (ap (λ (i : ℕ). i + 1) c.region_columns-last.ensures.value)
    c.regions_across.ensures.value c.ruled-left.ensures c.columns-columns.ensures.value
