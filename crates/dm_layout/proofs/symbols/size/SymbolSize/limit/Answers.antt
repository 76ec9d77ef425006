use Rattle.std.proofs.Common.{}
use Rattle.dm_layout.proofs.symbols.TableEntries.{size_facts}
use Rattle.dm_layout.proofs.symbols.size.SymbolSize.limit.Goals as goal

pub nonzero_div-result : goal.nonzero_div-result
nonzero_div-result c = (size_facts _ c.self.invariant).blocks
