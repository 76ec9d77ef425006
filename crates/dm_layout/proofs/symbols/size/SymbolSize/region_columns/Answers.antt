use Rattle.dm_layout.proofs.Names.{subst, arith, IsSize}
use Rattle.dm_layout.proofs.symbols.TableEntries.{size_facts}
use Rattle.dm_layout.proofs.symbols.size.SymbolSize.region_columns.Goals as goal

pub returns-clause-even : goal.returns-clause-even
returns-clause-even c = (size_facts c.args.self (subst IsSize c.self.view_is c.self.invariant)).even_columns

pub returns-clause-some : goal.returns-clause-some
returns-clause-some c =
    omega (arith, (size_facts c.args.self (subst IsSize c.self.view_is c.self.invariant)).least_columns)

pub returns-clause-columns : goal.returns-clause-columns
returns-clause-columns c = (size_facts c.args.self (subst IsSize c.self.view_is c.self.invariant)).columns

pub returns-clause-most : goal.returns-clause-most
returns-clause-most c = (size_facts c.args.self (subst IsSize c.self.view_is c.self.invariant)).region_columns_fit
