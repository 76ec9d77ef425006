use Rattle.dm_symbol.proofs.Names.{sym, subst, AreCodewordsOf, WordsView}
use Rattle.dm_symbol.proofs.SymbolBelow.{front_words}
use Rattle.dm_symbol.proofs.symbol.writing.complete_in.Goals as goal

pub returns-clause-checked : goal.returns-clause-checked
returns-clause-checked c =
    subst (λ (w : WordsView). AreCodewordsOf c.args.size w.list)
    (sym (front_words c.args.size c.complete.new.words _ c.complete.ensures.words.count)) c.complete.ensures.checked
