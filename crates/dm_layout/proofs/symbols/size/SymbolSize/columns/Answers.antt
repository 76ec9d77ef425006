use Rattle.dm_layout.proofs.Names.{subst, arith, IsSize}
use Rattle.dm_layout.proofs.symbols.TableEntries.{size_facts}
use Rattle.dm_layout.proofs.symbols.size.SymbolSize.columns.Goals as goal

pub returns-clause-most : goal.returns-clause-most
returns-clause-most c = (size_facts c.args.self (subst IsSize c.self.view_is c.self.invariant)).columns_fit

pub returns-clause-some : goal.returns-clause-some
returns-clause-some c =
    omega (arith, (size_facts c.args.self (subst IsSize c.self.view_is c.self.invariant)).columns_below)
