use Rattle.dm_layout.proofs.Names.{ℕ, ◌+◌, ◌-◌, ◌*◌, ◌^◌, ◌≤◌, ap, arith, pow_mono, SizeEntry}
use Rattle.dm_layout.proofs.symbols.LongSizes.{long_size}
use Rattle.dm_layout.proofs.symbols.SizeBorders.{long_borders}
use Rattle.dm_layout.proofs.symbols.borders.Borders.long.Goals as goal

pub ruled-left-requires-clause-fits : goal.ruled-left-requires-clause-fits
ruled-left-requires-clause-fits c =
    let long = long_size c.args.size c.columns-end.ensures.size c.requires in
    omega (arith, long.most, c.region_columns-last.ensures.value)

pub overflow_shl-first : goal.overflow_shl-first
overflow_shl-first c =
    let long = long_size c.args.size c.columns-end.ensures.size c.requires in
    omega (arith, long.most, c.region_columns-last.ensures.value)

pub invariant_of-result : goal.invariant_of-result
invariant_of-result c =
    let s : SizeEntry = c.args.size in
    let long = long_size s c.columns-end.ensures.size c.requires in
    let m : 2 ^ (5 * (c.region_columns-last.result + 1 + 1)) ≤ 2 ^ 128 =
    pow_mono {j = 128} (omega (arith, long.most, c.region_columns-last.ensures.value)) in
    long_borders s (c.region_rows.result + 1) (c.region_columns-last.result + 1) c.ruled-left.result.0
    c.ruled-left.result.1 (c.columns-end.result - 128) c.columns-end.ensures.size c.requires
    (ap (λ (i : ℕ). i + 1) c.region_rows.ensures.value) (ap (λ (i : ℕ). i + 1) c.region_columns-last.ensures.value)
    c.ruled-left.ensures (omega (arith, m, c.ruled-left.ensures.left_width)) (omega (
      arith,
      m,
      c.ruled-left.ensures.both_width,
    ))
    (ap (λ (i : ℕ). i - 128) c.columns-end.ensures.value)
