use Rattle.dm_layout.proofs.Names.{ℕ, ◌+◌, ◌^◌, ◌<◌, ◌≤◌, Option, ap, ◌∙◌, arith, count_ones, SymbolView, is_dark_bit}
use Rattle.dm_layout.proofs.Names.{SizeEntry}
use Rattle.dm_layout.proofs.symbols.SureCells.{IsLine, short_count, some_wide, sure_count, sure_few, sure_most}
use Rattle.dm_layout.proofs.symbols.TableEntries.{size_facts}
use Rattle.dm_layout.proofs.symbols.faults.row_faults.Given as given
use Rattle.dm_layout.proofs.symbols.faults.row_faults.Goals as goal
use Rattle.dm_layout.proofs.symbols.faults.row_faults.Goals.{After-wrong-behind}

-- What is known of a longer one.
long_line : (g : given.Over) (c : After-wrong-behind g) →
    IsLine c.args.symbol.now (g.D.Doubt.doubtful c.args.doubt.now) c.args.row c.row.result c.from-end.result
    c.args.dark.0 c.from.result c.args.cells.0 c.from-2.result c.row-2.result c.from-doubtful.result
long_line g c =
    let m : SymbolView = c.args.symbol.now in
    let D : Option SymbolView = g.D.Doubt.doubtful c.args.doubt.now in
    let facts = size_facts m.size c.size.ensures.modules.size in
    record {
      dark_fits = omega arith;
      mask_fits = omega arith;
      doubt_fits = c.row-2.type_inv;
      doubt_end_fits = c.from-doubtful.type_inv;
      first = c.row.ensures;
      behind = λ q l. ap (λ (i : ℕ). is_dark_bit i q) c.from-end.ensures ∙ c.end.ensures q l;
      doubt_first = λ q low l. c.row-2.ensures q low (some_wide D m.size q c.requires.doubt l);
      doubt_behind = λ q l.
          rw (c.from-doubtful.ensures, c.end-2.ensures q (some_wide D m.size (128 + q) c.requires.doubt l));
      border = rw (← c.from-2.ensures) at c.requires.cells;
      colours = rw (← c.from.ensures) at c.requires.dark;
      narrow = rw c.from-2.ensures c.requires.width;
      columns = facts.columns_fit;
    }

pub ones-requires : goal.ones-requires
ones-requires g c =
    let few = sure_few c.row.result c.args.dark.0 c.args.cells.0 c.row-2.result in
    let narrow : c.wrong-sure.result < 2 ^ c.args.symbol.now.size.columns =
    omega (arith, few, c.wrong-sure.ensures, c.requires.width) in
    rw (c.columns-columns.ensures.value, c.size.ensures.value) narrow

pub returns-then-columns-le-FIRST_COLUMNS-clause-count : goal.returns-then-columns-le-FIRST_COLUMNS-clause-count
returns-then-columns-le-FIRST_COLUMNS-clause-count g c =
    let m : SymbolView = c.args.symbol.now in
    let D : Option SymbolView = g.D.Doubt.doubtful c.args.doubt.now in
    let facts = size_facts m.size c.size.ensures.modules.size in
    let e = ap (λ (s : SizeEntry). s.columns) c.size.ensures.value in
    let n : m.size.columns ≤ 128 = omega (arith, e) in
    let line : IsLine m D c.args.row c.row.result 0 c.args.dark.0 c.args.dark.1 c.args.cells.0
    c.args.cells.1 c.row-2.result 0 = record {
      dark_fits = omega arith;
      mask_fits = omega arith;
      doubt_fits = c.row-2.type_inv;
      doubt_end_fits = omega arith;
      first = c.row.ensures;
      behind = λ q l. absurd (omega (arith, l, n));
      doubt_first = λ q low l. c.row-2.ensures q low (some_wide D m.size q c.requires.doubt l);
      doubt_behind = λ q l. absurd (omega (arith, l, n));
      border = c.requires.cells;
      colours = c.requires.dark;
      narrow = c.requires.width;
      columns = facts.columns_fit;
    } in
    c.ones.ensures.value ∙ ap count_ones c.wrong-sure.ensures ∙ short_count m D _ _ _ _ _ _ _ _ _ line n

pub returns : goal.returns
returns g c =
    let line = long_line g (goal.at.returns g c).After-wrong-behind in
    let all = sure_count c.args.symbol.now (g.D.Doubt.doubtful c.args.doubt.now) _ _ _ _ _ _ _ _ _ line in
    let most = sure_most c.args.symbol.now (g.D.Doubt.doubtful c.args.doubt.now) _ _ _ _ _ _ _ _ _ line in
    let sure = ap count_ones c.wrong-sure.ensures in
    let behind = ap count_ones c.wrong-behind.ensures in
    record { count = omega (arith, all); most = omega (arith, most) }
