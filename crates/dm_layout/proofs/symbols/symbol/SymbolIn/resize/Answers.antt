use Rattle.dm_layout.proofs.symbols.KeptRows.{modules_of_kept}
use Rattle.dm_layout.proofs.symbols.symbol.SymbolIn.resize.Goals as goal

pub returns-clause-modules : goal.returns-clause-modules
returns-clause-modules g c = modules_of_kept c.args.size _ _ c.rows-rows.ensures.size
