use Rattle.dm_layout.proofs.Names.{ap, ◌∙◌, arith, SizeEntry}
use Rattle.dm_layout.proofs.symbols.KeptEquality.{told_end, told_none}
use Rattle.dm_layout.proofs.symbols.LongSizes.{short_size}
use Rattle.dm_layout.proofs.symbols.symbol.SymbolIn.has_row_of.Goals as goal

pub same_modules-requires : goal.same_modules-requires
same_modules-requires g c =
    let few = short_size c.size.result c.columns-columns.ensures.size (omega (
      arith,
      c.columns-columns.ensures.value,
      c.if-columns-le-FIRST_COLUMNS.true,
    )) in
    omega (arith, few, c.columns-columns.ensures.value)

pub returns-then-row : goal.returns-then-row
returns-then-row g c =
    let n = c.columns-columns.result in
    let told =
    rw c.from-end.ensures at c.same_modules-then-row.ensures in
    let both =
    rw c.from-other_end.ensures at told in
    told_end c.args.self.now c.args.other.now c.args.row c.row-else-columns-le-FIRST_COLUMNS.result
    c.row-else-columns-le-FIRST_COLUMNS-2.result c.requires.size c.row-else-columns-le-FIRST_COLUMNS.ensures
    c.row-else-columns-le-FIRST_COLUMNS-2.ensures c.end.result c.end-then-row.result c.same_modules-then-row.result n
    (c.columns-columns.ensures.value ∙ ap (λ (s : SizeEntry). s.columns) c.size.ensures.value) c.if-row.true
    c.end.ensures c.end-then-row.ensures both

pub returns-else-row : goal.returns-else-row
returns-else-row g c = (
  λ t. cc,
  λ h. absurd (told_none c.args.self.now c.args.other.now c.args.row c.row-else-columns-le-FIRST_COLUMNS.result
      c.row-else-columns-le-FIRST_COLUMNS-2.result c.requires.size c.row-else-columns-le-FIRST_COLUMNS.ensures
      c.row-else-columns-le-FIRST_COLUMNS-2.ensures
      (let e = ap (λ (s : SizeEntry). s.columns) c.size.ensures.value in
      omega (arith, e, c.columns-columns.ensures.value, c.if-columns-le-FIRST_COLUMNS.false))
      c.row-else-columns-le-FIRST_COLUMNS.type_inv c.row-else-columns-le-FIRST_COLUMNS-2.type_inv c.if-row.false h),
)
