use Rattle.dm_layout.proofs.Names.{subst, IsSize}
use Rattle.dm_layout.proofs.symbols.TableEntries.{size_facts}
use Rattle.dm_layout.proofs.symbols.size.SymbolSize.rows.Goals as goal

pub returns-clause-most : goal.returns-clause-most
returns-clause-most c = (size_facts c.args.self (subst IsSize c.self.view_is c.self.invariant)).rows_fit

pub returns-clause-modules : goal.returns-clause-modules
returns-clause-modules c = (size_facts c.args.self (subst IsSize c.self.view_is c.self.invariant)).modules
