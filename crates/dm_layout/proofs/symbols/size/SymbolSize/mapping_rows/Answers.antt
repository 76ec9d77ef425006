use Rattle.dm_layout.proofs.Names.{subst, arith, IsSize}
use Rattle.dm_layout.proofs.symbols.TableEntries.{size_facts}
use Rattle.dm_layout.proofs.symbols.size.SymbolSize.mapping_rows.Goals as goal

pub overflow_mul-result : goal.overflow_mul-result
overflow_mul-result c =
    omega (arith, (size_facts _ c.self.invariant).rows_below, (size_facts _ c.self.invariant).rows_fit)

pub returns-clause-below : goal.returns-clause-below
returns-clause-below c = (size_facts c.args.self (subst IsSize c.self.view_is c.self.invariant)).rows_below

pub returns-clause-cells : goal.returns-clause-cells
returns-clause-cells c = (size_facts c.args.self (subst IsSize c.self.view_is c.self.invariant)).cells
