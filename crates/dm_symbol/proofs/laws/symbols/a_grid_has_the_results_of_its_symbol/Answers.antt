use Rattle.dm_symbol.proofs.Grids.{result_of_symbol}
use Rattle.dm_symbol.proofs.laws.symbols.a_grid_has_the_results_of_its_symbol.Goals as goal

pub returns-clause-read : goal.returns-clause-read
returns-clause-read c = result_of_symbol
