use Rattle.std.proofs.Common.{◌+◌, ◌*◌, false, get_or}
use Rattle.dm_layout.proofs.KeptSymbols.{IsPut}
use Rattle.dm_layout.proofs.grids.grid.Grid.new.Given as goal

abbrev pub invariant-loop-row : goal.invariant-loop-row
invariant-loop-row l =
    IsPut l.initial.grid-inside.symbol.size l.row (λ r c. get_or l.cells (r * l.across + c) false) l.grid-inside.symbol
