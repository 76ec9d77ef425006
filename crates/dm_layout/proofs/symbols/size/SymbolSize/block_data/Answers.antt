use Rattle.dm_layout.proofs.Names.{subst, arith, IsSize}
use Rattle.dm_layout.proofs.symbols.TableEntries.{size_facts, some_block_data, block_parts}
use Rattle.dm_layout.proofs.symbols.size.SymbolSize.block_data.Goals as goal

pub overflow_add-result : goal.overflow_add-result
overflow_add-result c =
    omega (arith, (size_facts _ c.self.invariant).data_fits, (size_facts _ c.self.invariant).few_blocks)

pub returns-clause-some : goal.returns-clause-some
returns-clause-some c = some_block_data c.args.self (subst IsSize c.self.view_is c.self.invariant) c.args.b c.requires

pub returns-clause-length : goal.returns-clause-length
returns-clause-length c = block_parts c.args.self (subst IsSize c.self.view_is c.self.invariant) c.args.b c.requires
