use Rattle.std.proofs.Common.{◌∙◌, sym}
use Rattle.dm_layout.proofs.TableRows.{found_row}
use Rattle.dm_layout.proofs.grids.grid.size_of_square.Goals as goal

pub returns-in-Some-clause-rows : goal.returns-in-Some-clause-rows
returns-in-Some-clause-rows c =
    c.if-rows-side.false ∙ sym (found_row c.args.side c.in-Some.size (sym c.in-Some.ensures)).0
