use Rattle.dm_layout.proofs.Names.{subst, arith, IsSize}
use Rattle.dm_layout.proofs.symbols.TableEntries.{size_facts}
use Rattle.dm_layout.proofs.symbols.size.SymbolSize.region_rows.Goals as goal

pub returns-clause-even : goal.returns-clause-even
returns-clause-even c = (size_facts c.args.self (subst IsSize c.self.view_is c.self.invariant)).even_rows

pub returns-clause-some : goal.returns-clause-some
returns-clause-some c =
    omega (arith, (size_facts c.args.self (subst IsSize c.self.view_is c.self.invariant)).least_rows)

pub returns-clause-rows : goal.returns-clause-rows
returns-clause-rows c = (size_facts c.args.self (subst IsSize c.self.view_is c.self.invariant)).rows

pub returns-clause-most : goal.returns-clause-most
returns-clause-most c = (size_facts c.args.self (subst IsSize c.self.view_is c.self.invariant)).region_rows_fit
