use Rattle.dm_layout.proofs.Names.{◌≡◌, ℕ, ◌*◌, ◌≤◌, ap, ◌∙◌, sym, arith, rules, symbol_line, SizeEntry}
use Rattle.dm_layout.proofs.Names.{mapping_columns, whole_row, is_dark_bit}
use Rattle.dm_layout.proofs.symbols.KeptRows.{whole_first}
use Rattle.dm_layout.proofs.symbols.LongRows.{whole_alone}
use Rattle.dm_layout.proofs.symbols.LongSizes.{long_size, short_size, across_fits}
use Rattle.dm_layout.proofs.symbols.TableEntries.{size_facts}
use Rattle.dm_layout.proofs.symbols.drawing.symbol_row_of.Goals as goal
use Rattle.dm_layout.proofs.symbols.drawing.symbol_row_of.Goals.{After-regions_across}

-- The matrix has so many columns.
matrix : (c : After-regions_across) → c.regions_across.result * c.region_columns.result ≡ mapping_columns c.args.size
matrix c =
    rw (c.regions_across.ensures.value, c.region_columns.ensures.value)

pub outer_row-outer-requires : goal.outer_row-outer-requires
outer_row-outer-requires c =
    let facts = size_facts c.args.size c.requires.entry in
    let across = across_fits c.args.size c.requires.entry in
    let short : c.args.size.columns ≤ 128 = omega arith in
    let few = short_size c.args.size c.requires.entry short in
    let e = matrix (goal.at.outer_row-outer-requires c).After-regions_across in
    record {
      least = omega (arith, facts.least_columns);
      fits = omega (arith, e, facts.columns_below, few);
      some = omega (arith, facts.across);
      few = omega (arith, across.0);
      wide = search rules;
      prefixes = rw (c.region_columns.ensures.value, c.regions_across.ensures.value) c.requires.prefixes;
    }

pub long_outer_row-requires : goal.long_outer_row-requires
long_outer_row-requires c =
    let e = c.region_columns-else-columns-le-FIRST_COLUMNS.ensures.value in
    let long = long_size c.args.size c.requires.entry (omega arith) in
    record {
      least = omega (arith, long.least, e);
      most = omega (arith, long.most, e);
      prefixes = rw (e, ← long.across) c.requires.prefixes;
    }

pub returns-then-columns-le-FIRST_COLUMNS-clause-mapped : goal.returns-then-columns-le-FIRST_COLUMNS-clause-mapped
returns-then-columns-le-FIRST_COLUMNS-clause-mapped c = λ q l.
    let s : SizeEntry = c.args.size in
    let outer : ℕ = c.outer_row-outer.result in
    let facts = size_facts s c.requires.entry in
    let e = matrix (goal.at.returns-then-columns-le-FIRST_COLUMNS-clause-mapped c).After-regions_across in
    ap (λ (i : ℕ). is_dark_bit i (symbol_line s.region_columns q)) (whole_alone outer)
    ∙ ap (λ (i : ℕ). is_dark_bit outer (symbol_line i q)) (sym c.region_columns.ensures.value)
    ∙ c.outer_row-outer.ensures.mapped q (omega (arith, l, e))
    ∙ sym (whole_first c.args.inner c.args.rest q (omega (arith, l, facts.columns_below)))

pub returns-else-columns-le-FIRST_COLUMNS-clause-mapped : goal.returns-else-columns-le-FIRST_COLUMNS-clause-mapped
returns-else-columns-le-FIRST_COLUMNS-clause-mapped c = λ q l.
    let s : SizeEntry = c.args.size in
    let x : ℕ = whole_row c.long_outer_row.result.0 c.long_outer_row.result.1 in
    let long = long_size s c.requires.entry (omega arith) in
    let ew = c.region_columns-else-columns-le-FIRST_COLUMNS.ensures.value in
    cc (ew, c.long_outer_row.ensures.mapped q (omega (arith, l, long.matrix, ew)))
