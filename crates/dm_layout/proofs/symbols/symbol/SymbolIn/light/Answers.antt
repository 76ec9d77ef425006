use Rattle.dm_layout.proofs.symbols.KeptRows.{light_kept, modules_of_kept}
use Rattle.dm_layout.proofs.symbols.symbol.SymbolIn.light.Goals as goal

pub returns-clause-modules : goal.returns-clause-modules
returns-clause-modules g c = modules_of_kept c.args.size _ _ c.rows-rows.ensures.size

pub returns-clause-light : goal.returns-clause-light
returns-clause-light g c = light_kept c.args.size g.row.ROWS
