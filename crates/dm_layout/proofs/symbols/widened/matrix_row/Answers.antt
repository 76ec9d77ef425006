use Rattle.dm_layout.proofs.Names.{◌≡◌, ℕ, ◌*◌, ap, ◌∙◌, sym, arith, rules, module_at, is_dark_bit, SizeEntry}
use Rattle.dm_layout.proofs.Names.{mapping_columns, whole_row}
use Rattle.dm_layout.proofs.symbols.KeptRows.{whole_cells}
use Rattle.dm_layout.proofs.symbols.LongRows.{matrix_cells, whole_alone}
use Rattle.dm_layout.proofs.symbols.LongSizes.{long_size, short_size}
use Rattle.dm_layout.proofs.symbols.TableEntries.{size_facts}
use Rattle.dm_layout.proofs.symbols.widened.matrix_row.Goals as goal

pub inner_row-inner-requires : goal.inner_row-inner-requires
inner_row-inner-requires c =
    let s : SizeEntry = c.size-size.result in
    let facts = size_facts s c.columns.ensures.size in
    let few = short_size s c.columns.ensures.size (omega arith) in
    let e : c.regions_across.result * c.region_columns.result ≡ mapping_columns s =
    rw (c.regions_across.ensures.value, c.region_columns.ensures.value) in
    record {
      least = omega (arith, facts.least_columns);
      some = omega (arith, facts.across);
      fits = omega (arith, e, facts.columns_below, few);
      wide = search rules;
    }

pub long_inner_row-requires : goal.long_inner_row-requires
long_inner_row-requires c =
    let long = long_size c.size-size.result c.columns.ensures.size (omega arith) in
    let e = c.region_columns-else-columns-le-FIRST_COLUMNS.ensures.value in
    record { least = omega (arith, long.least, e); most = omega (arith, long.most, e) }

pub returns-then-columns-le-FIRST_COLUMNS-clause-cells : goal.returns-then-columns-le-FIRST_COLUMNS-clause-cells
returns-then-columns-le-FIRST_COLUMNS-clause-cells c = λ q l.
    let es = c.size-size.ensures.value in
    ap (λ (i : ℕ). is_dark_bit i q) (whole_alone c.inner_row-inner.result)
    ∙ matrix_cells c.args.symbol.now c.args.row c.region_columns.result c.regions_across.result
    c.size-size.ensures.modules.size
    (c.region_columns.ensures.value ∙ ap (λ (s : SizeEntry). s.region_columns) es)
    (c.regions_across.ensures.value ∙ ap (λ (s : SizeEntry). s.regions_across) es) c.row.result
    c.inner_row-inner.result c.inner_row-inner.ensures.cells
    (λ k lk.
    let e = ap (λ (s : SizeEntry). s.columns) es in
    c.row.ensures k (omega (arith, lk, e)) lk) q l

pub returns-else-columns-le-FIRST_COLUMNS : goal.returns-else-columns-le-FIRST_COLUMNS
returns-else-columns-le-FIRST_COLUMNS c =
    let m = c.args.symbol.now in
    let es = c.size-size.ensures.value in
    let e = ap (λ (s : SizeEntry). s.columns) es in
    let ew = c.region_columns-else-columns-le-FIRST_COLUMNS.ensures.value
    ∙ ap (λ (s : SizeEntry). s.region_columns) es in
    let long = long_size m.size c.size-size.ensures.modules.size (omega (arith, e)) in
    record {
      cells =
          matrix_cells m c.args.row _ 6 c.size-size.ensures.modules.size ew (sym long.across)
          (whole_row c.row-else-columns-le-FIRST_COLUMNS.result c.end.result)
          (whole_row c.long_inner_row.result.0 c.long_inner_row.result.1) c.long_inner_row.ensures.cells
          (whole_cells c.row-else-columns-le-FIRST_COLUMNS.result c.end.result m.size.columns (module_at m c.args.row)
          c.row-else-columns-le-FIRST_COLUMNS.type_inv c.row-else-columns-le-FIRST_COLUMNS.ensures c.end.ensures);
      width =
          rw (ap (λ (i : ℕ). 6 * i) ew ∙ sym long.matrix) at c.long_inner_row.ensures.width;
    }
