use Rattle.dm_symbol.proofs.Grids.{grid_and_modules}
use Rattle.dm_symbol.proofs.laws.symbols.a_grid_is_read_as_its_modules.Goals as goal

pub returns : goal.returns
returns c = grid_and_modules
