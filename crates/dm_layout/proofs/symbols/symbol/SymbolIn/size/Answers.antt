use Rattle.dm_layout.proofs.Names.{subst, IsSymbol}
use Rattle.dm_layout.proofs.symbols.KeptRows.{modules_of_kept}
use Rattle.dm_layout.proofs.symbols.symbol.SymbolIn.size.Goals as goal

pub returns-clause-modules : goal.returns-clause-modules
returns-clause-modules g c =
    subst IsSymbol c.self.view_is (modules_of_kept c.self.inside.size c.self.inside.rows c.self.inside.ends
    c.self.invariant.entry)
