use Rattle.dm_symbol.proofs.TurnedCells.{turned_cells_are_read}
use Rattle.dm_symbol.proofs.laws.turned_cells_are_read.Goals as goal

pub returns : goal.returns
returns c = turned_cells_are_read
