use Rattle.dm_layout.proofs.Names.{subst, arith, IsSize}
use Rattle.dm_layout.proofs.symbols.TableEntries.{size_facts, short_block}
use Rattle.dm_layout.proofs.symbols.size.SymbolSize.block_length.Goals as goal

pub overflow_add-result : goal.overflow_add-result
overflow_add-result c = omega (arith, (size_facts _ c.self.invariant).codewords)

pub overflow_add-result-2 : goal.overflow_add-result-2
overflow_add-result-2 c =
    omega (arith, (size_facts _ c.self.invariant).codewords, (size_facts _ c.self.invariant).few_blocks)

pub returns-clause-most : goal.returns-clause-most
returns-clause-most c = short_block c.args.self (subst IsSize c.self.view_is c.self.invariant) c.args.b c.requires
