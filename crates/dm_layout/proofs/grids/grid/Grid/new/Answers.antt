use Rattle.dm_layout.proofs.Names.{◌≡◌, ◌∙◌, ◌+◌, ◌*◌, ◌<◌, ℕ, Bool, false, Some, ap, sym, subst, get_or, arith, lit<}
use Rattle.dm_layout.proofs.Names.{SizeEntry, SymbolView, SizeRow, row_with_side, symbol_size, GridView, square_by}
use Rattle.dm_layout.proofs.Names.{kept_grid}
use Rattle.dm_layout.proofs.TableRows.{found_row, side_fits}
use Rattle.dm_layout.proofs.KeptSymbols.{IsPut, kept_fits, kept_sides, row_more, square_put}
use Rattle.dm_layout.proofs.PackedRows.{length_of_part, cell_of_part}
use Rattle.dm_layout.proofs.grids.grid.Grid.new.Goals as goal

-- The grid that is filled has the side that is asked for.
side_here : (m : SymbolView) (g : GridView) (s : SizeRow) (side : ℕ) → kept_grid m ≡ g → g.size ≡ s →
    Some s ≡ row_with_side side → m.size.rows ≡ side
side_here m g s side e f found =
    ap (λ (h : GridView). h.size.side) e ∙ ap (λ (r : SizeRow). r.side) f ∙ (found_row side s (sym found)).0

pub packed_row-requires : goal.packed_row-requires
packed_row-requires c =
    let fits = side_fits c.args.side c.in-Some.size (sym c.in-Some.ensures) in
    let part =
    length_of_part c.args.side c.loop-row.row c.args.cells.now c.if-cells-across.false c.loop-row-test.true in
    omega (arith, part, fits)

pub put_row-requires : goal.put_row-requires
put_row-requires c =
    let side =
    side_here c.grid.inside.symbol c.light-grid.result c.in-Some.size c.args.side c.grid.view_is
    c.light-grid.ensures.size c.in-Some.ensures in
    let same = ap (λ (s : SizeEntry). s.rows) c.loop-row.invariant.same_size in
    (lit< tt, omega (arith, side, same, c.loop-row-test.true))

pub loop-row-preserved : goal.loop-row-preserved
loop-row-preserved c =
    let n : ℕ = c.args.side in
    let m = c.grid.inside.symbol in
    let side =
    side_here m c.light-grid.result c.in-Some.size n c.grid.view_is c.light-grid.ensures.size c.in-Some.ensures in
    let square = kept_sides m.size c.grid.invariant in
    let fits = kept_fits m.size c.grid.invariant in
    let part = length_of_part n c.loop-row.row c.args.cells.now c.if-cells-across.false c.loop-row-test.true in
    row_more m.size c.loop-row.row c.packed_row.result (λ r k. get_or c.args.cells.now (r * n + k) false)
    c.loop-row.grid-inside.symbol c.put_row.new.self c.loop-row.invariant (omega (arith, side, c.loop-row-test.true))
    (omega (arith, square, fits)) c.put_row.ensures.size c.put_row.ensures.modules c.put_row.ensures.start
    c.put_row.ensures.others
    (λ column below.
    let inside : column < n = omega (arith, below, square, side) in
    c.packed_row.ensures column (omega (arith, part, inside))
    ∙ cell_of_part n c.loop-row.row column c.args.cells.now inside)

pub returns-clause-cells : goal.returns-clause-cells
returns-clause-cells c =
    let n : ℕ = c.args.side in
    let s = c.in-Some.size in
    let m = c.loop-row.grid-inside.symbol in
    let colour : ℕ → ℕ → Bool = λ r k. get_or c.args.cells.now (r * n + k) false in
    let found = found_row n s (sym c.in-Some.ensures) in
    let kept : c.grid.inside.symbol.size ≡ symbol_size s =
    sym c.grid.invariant.same
    ∙ ap (λ (g : GridView). symbol_size g.size) c.grid.view_is ∙ ap symbol_size c.light-grid.ensures.size in
    square_put s c.loop-row.row colour m found.1 (omega (arith, found.0, c.loop-row-test.false))
    (subst (λ (e : SizeEntry). IsPut e c.loop-row.row colour m) kept c.loop-row.invariant)
    ∙ ap (λ i. square_by i colour) found.0
