use Rattle.dm_layout.proofs.Names.{get_or, arith, refl, symbol_size, is_dark_in}
use Rattle.dm_layout.proofs.KeptSymbols.{row_more, square_put}
use Rattle.dm_layout.proofs.grids.grid.Grid.put_rows.Goals as goal

pub loop-row-preserved : goal.loop-row-preserved
loop-row-preserved c =
    row_more (symbol_size c.args.size) c.loop-row.row (get_or c.args.rows.now c.from.result 0)
    (λ r. is_dark_in (get_or c.args.rows.now r 0)) c.loop-row.self-inside.symbol c.put_row.new.self c.loop-row.invariant
    (omega (arith, c.side-row-end.ensures.value, c.loop-row-test.true)) (omega (arith, c.symbol.ensures.most))
    c.put_row.ensures.size c.put_row.ensures.modules c.put_row.ensures.start c.put_row.ensures.others
    (λ column below. rw c.from.ensures refl)

pub returns-clause-cells : goal.returns-clause-cells
returns-clause-cells c =
    square_put c.args.size c.loop-row.row (λ r. is_dark_in (get_or c.args.rows.now r 0)) c.loop-row.self-inside.symbol
    c.symbol.ensures.row (omega (arith, c.side-row-end.ensures.value, c.loop-row-test.false)) c.loop-row.invariant
