use Rattle.dm_layout.proofs.Names.{subst, IsSize}
use Rattle.dm_layout.proofs.symbols.TableEntries.{size_facts}
use Rattle.dm_layout.proofs.symbols.size.SymbolSize.blocks.Goals as goal

pub returns-clause-some : goal.returns-clause-some
returns-clause-some c = (size_facts c.args.self (subst IsSize c.self.view_is c.self.invariant)).blocks

pub returns-clause-most : goal.returns-clause-most
returns-clause-most c = (size_facts c.args.self (subst IsSize c.self.view_is c.self.invariant)).few_blocks
