use Rattle.std.proofs.Common.{arith}
use Rattle.dm_layout.proofs.symbols.TableEntries.{size_facts}
use Rattle.dm_layout.proofs.symbols.symbol.SymbolIn.is_dark.Goals as goal

pub overflow_shr-result-else-column-lt-FIRST_COLUMNS : goal.overflow_shr-result-else-column-lt-FIRST_COLUMNS
overflow_shr-result-else-column-lt-FIRST_COLUMNS g c =
    let facts = size_facts c.args.self.now.size c.size-size.ensures.modules.size in
    omega (arith, facts.columns_fit, c.requires.column, c.if-column-lt-FIRST_COLUMNS.false)
