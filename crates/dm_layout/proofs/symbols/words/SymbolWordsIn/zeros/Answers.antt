use Rattle.dm_layout.proofs.Names.{ap, take-replicate, codeword_count}
use Rattle.dm_layout.proofs.symbols.words.SymbolWordsIn.zeros.Goals as goal

pub returns-clause-value : goal.returns-clause-value
returns-clause-value g c =
    ap (λ list. record { size = c.args.size; list = list })
    (take-replicate (codeword_count c.args.size) g.row.ROOM 0 c.requires)
