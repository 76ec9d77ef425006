use Rattle.dm_layout.proofs.Names.{subst, arith, IsSize}
use Rattle.dm_layout.proofs.symbols.TableEntries.{size_facts}
use Rattle.dm_layout.proofs.symbols.size.SymbolSize.mapping_columns.Goals as goal

pub overflow_mul-result : goal.overflow_mul-result
overflow_mul-result c =
    omega (arith, (size_facts _ c.self.invariant).columns_below, (size_facts _ c.self.invariant).columns_fit)

pub returns-clause-below : goal.returns-clause-below
returns-clause-below c = (size_facts c.args.self (subst IsSize c.self.view_is c.self.invariant)).columns_below
