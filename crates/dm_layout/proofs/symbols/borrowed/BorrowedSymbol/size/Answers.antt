use Rattle.dm_layout.proofs.Names.{subst, IsSymbol}
use Rattle.dm_layout.proofs.symbols.KeptRows.{modules_of_kept}
use Rattle.dm_layout.proofs.symbols.borrowed.BorrowedSymbol.size.Goals as goal

pub returns-clause-modules : goal.returns-clause-modules
returns-clause-modules c =
    subst IsSymbol c.self.view_is (modules_of_kept c.self.inside.size c.self.inside.rows.now c.self.inside.ends.now
    c.self.invariant.entry)
