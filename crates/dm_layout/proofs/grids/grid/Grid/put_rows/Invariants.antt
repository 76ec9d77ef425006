use Rattle.dm_layout.proofs.Names.{get_or, symbol_size, is_dark_in}
use Rattle.dm_layout.proofs.KeptSymbols.{IsPut}
use Rattle.dm_layout.proofs.grids.grid.Grid.put_rows.Given as goal

abbrev pub invariant-loop-row : goal.invariant-loop-row
invariant-loop-row l =
    IsPut (symbol_size l.fn.size) l.row (λ r. is_dark_in (get_or l.rows r 0)) l.self-inside.symbol
