use Rattle.dm_layout.proofs.Names.{◌≡◌, ℕ, ◌+◌, ◌*◌, Option, ap, ◌∙◌, subst, arith, rules, count_by, range_with_len}
use Rattle.dm_layout.proofs.Names.{SymbolView, is_sure_fault, SizeEntry, sure_faults_in}
use Rattle.dm_layout.proofs.symbols.BorderMasks.{row_cells, row_cells_by, row_dark, row_dark_by}
use Rattle.dm_layout.proofs.symbols.SureCells.{faults_more}
use Rattle.dm_layout.proofs.symbols.TableEntries.{SizeFacts, size_facts}
use Rattle.dm_layout.proofs.symbols.faults.region_faults.Goals as goal

pub loop-pair-init : goal.loop-pair-init
loop-pair-init g c =
    let facts = subst SizeFacts c.requires.size (size_facts c.args.borders.now c.last-last.ensures.size) in
    let e = ap (λ (s : SizeEntry). s.region_rows) c.requires.size in
    record {
      so_far = search rules;
      most = omega (arith, c.row_faults-faults.ensures.most);
      last = omega (arith, e, c.last-last.ensures.value);
      fits = omega (arith, facts.rows_fit, c.requires.fits);
      least = facts.least_rows;
      even = facts.even_rows;
    }

pub row_faults-faults-requires-in-loop-pair-clause-cells : goal.row_faults-faults-requires-in-loop-pair-clause-cells
row_faults-faults-requires-in-loop-pair-clause-cells g c =
    let e = ap (λ (s : SizeEntry). s.region_rows) c.requires.size in
    row_cells_by c.args.symbol.now.size c.args.borders.now c.args.first (2 * c.loop-pair.pair + 1)
    (c.args.first + 2 * c.loop-pair.pair + 1) _ c.requires.size c.requires.first (omega arith) (omega arith) 1
    (omega arith) (omega arith) (omega arith) (omega arith) c.sides-sides.ensures.cells

pub row_faults-faults-requires-in-loop-pair-clause-dark : goal.row_faults-faults-requires-in-loop-pair-clause-dark
row_faults-faults-requires-in-loop-pair-clause-dark g c =
    let e = ap (λ (s : SizeEntry). s.region_rows) c.requires.size in
    row_dark_by c.args.symbol.now.size c.args.borders.now c.args.first (2 * c.loop-pair.pair + 1)
    (c.args.first + 2 * c.loop-pair.pair + 1) _ c.requires.size c.requires.first (omega arith) (omega arith) 1
    (omega arith) (omega arith) (omega arith) (omega arith) (omega arith) c.sides-sides.ensures.dark

pub row_faults-faults-requires-in-loop-pair-2-clause-cells
    : goal.row_faults-faults-requires-in-loop-pair-2-clause-cells
row_faults-faults-requires-in-loop-pair-2-clause-cells g c =
    let e = ap (λ (s : SizeEntry). s.region_rows) c.requires.size in
    row_cells_by c.args.symbol.now.size c.args.borders.now c.args.first (2 * c.loop-pair.pair + 2)
    (c.args.first + 2 * c.loop-pair.pair + 1 + 1) _ c.requires.size c.requires.first (omega arith) (omega arith) 1
    (omega arith) (omega arith) (omega arith) (omega arith) c.sides-sides.ensures.cells

pub row_faults-faults-requires-in-loop-pair-2-clause-dark : goal.row_faults-faults-requires-in-loop-pair-2-clause-dark
row_faults-faults-requires-in-loop-pair-2-clause-dark g c =
    let e = ap (λ (s : SizeEntry). s.region_rows) c.requires.size in
    row_dark_by c.args.symbol.now.size c.args.borders.now c.args.first (2 * c.loop-pair.pair + 2)
    (c.args.first + 2 * c.loop-pair.pair + 1 + 1) _ c.requires.size c.requires.first (omega arith) (omega arith) 2
    (omega arith) (omega arith) (omega arith) (omega arith) (omega arith) c.left_sides-left.ensures

pub loop-pair-preserved : goal.loop-pair-preserved
loop-pair-preserved g c =
    let m : SymbolView = c.args.symbol.now in
    let D : Option SymbolView = g.D.Doubt.doubtful c.args.doubt.now in
    let first : ℕ = c.args.first in
    let pair : ℕ = c.loop-pair.pair in
    let odd = faults_more m D first (2 * pair + 1) in
    let even = faults_more m D first (2 * pair + 1 + 1) in
    let next : 2 * pair + 1 + 1 + 1 ≡ 2 * (pair + 1) + 1 = omega arith in
    let more = ap (λ (i : ℕ). sure_faults_in m D first i) next in
    let faults_of : ℕ → ℕ = λ r. count_by (is_sure_fault m D r) (range_with_len 0 m.size.columns) in
    let odd_row : first + (2 * pair + 1) ≡ first + 2 * pair + 1 = omega arith in
    let even_row : first + (2 * pair + 1 + 1) ≡ first + 2 * pair + 1 + 1 = omega arith in
    record {
      so_far = omega (
        arith,
        odd,
        even,
        more,
        ap faults_of odd_row,
        ap faults_of even_row,
        c.loop-pair.invariant.so_far,
        c.row_faults-faults-in-loop-pair.ensures.count,
        c.row_faults-faults-in-loop-pair-2.ensures.count,
      );
      most = omega (
        arith,
        c.loop-pair.invariant.most,
        c.row_faults-faults-in-loop-pair.ensures.most,
        c.row_faults-faults-in-loop-pair-2.ensures.most,
      );
      last = c.loop-pair.invariant.last;
      fits = c.loop-pair.invariant.fits;
      least = c.loop-pair.invariant.least;
      even = c.loop-pair.invariant.even;
    }

pub row_faults-requires-clause-cells : goal.row_faults-requires-clause-cells
row_faults-requires-clause-cells g c =
    let e = ap (λ (s : SizeEntry). s.region_rows) c.requires.size in
    row_cells c.args.symbol.now.size c.args.borders.now c.args.first c.last-last.result
    (c.args.first + c.last-last.result) _ c.requires.size c.requires.first (omega arith)
    (omega arith) c.cells-cells.ensures.cells

pub row_faults-requires-clause-dark : goal.row_faults-requires-clause-dark
row_faults-requires-clause-dark g c =
    let e = ap (λ (s : SizeEntry). s.region_rows) c.requires.size in
    row_dark c.args.symbol.now.size c.args.borders.now c.args.first c.last-last.result
    (c.args.first + c.last-last.result) _ c.requires.size c.requires.first (omega arith)
    (omega arith) c.dark-dark.ensures.cells

pub returns-clause-count : goal.returns-clause-count
returns-clause-count g c =
    let faults = sure_faults_in c.args.symbol.now (g.D.Doubt.doubtful c.args.doubt.now) c.args.first in
    let n : ℕ = c.last-last.result in
    let here : 2 * c.loop-pair.pair + 1 ≡ n = omega (arith, c.loop-pair-test.false, c.loop-pair.auto.pair-end) in
    let whole : n + 1 ≡ c.args.symbol.now.size.region_rows + 2 = omega arith in
    let more = faults_more c.args.symbol.now (g.D.Doubt.doubtful c.args.doubt.now) c.args.first n in
    let so_far = c.loop-pair.invariant.so_far ∙ ap faults here in
    let sum : c.loop-pair.faults + c.row_faults.result ≡ faults (n + 1) =
    omega (arith, so_far, more, c.row_faults.ensures.count) in
    sum ∙ ap faults whole
