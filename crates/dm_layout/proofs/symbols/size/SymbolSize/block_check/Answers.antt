use Rattle.dm_layout.proofs.Names.{subst, IsSize}
use Rattle.dm_layout.proofs.symbols.TableEntries.{size_facts}
use Rattle.dm_layout.proofs.symbols.size.SymbolSize.block_check.Goals as goal

pub nonzero_div-result : goal.nonzero_div-result
nonzero_div-result c = (size_facts _ c.self.invariant).blocks

pub returns-clause-some : goal.returns-clause-some
returns-clause-some c = (size_facts c.args.self (subst IsSize c.self.view_is c.self.invariant)).some_checks

pub returns-clause-most : goal.returns-clause-most
returns-clause-most c = (size_facts c.args.self (subst IsSize c.self.view_is c.self.invariant)).few_checks
