use Rattle.dm_layout.proofs.Names.{subst, IsWords}
use Rattle.dm_layout.proofs.symbols.KeptWords.{words_of_kept}
use Rattle.dm_layout.proofs.symbols.words.SymbolWordsIn.list.Goals as goal

pub returns-clause-words : goal.returns-clause-words
returns-clause-words g c =
    subst IsWords c.self.view_is
    (words_of_kept c.self.inside.size c.self.inside.kept c.self.invariant c.self.told c.are_bytes.ensures)
