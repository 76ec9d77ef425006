use Rattle.dm_words.proofs.Names.{◌∙◌, sym}
use Rattle.dm_words.proofs.Openings.{alone_opens}
use Rattle.dm_words.proofs.contents.opening.opening_of.Goals as goal

pub returns-then-begins_alone : goal.returns-then-begins_alone
returns-then-begins_alone c =
    rw c.in-Wide.is (alone_opens c.args.words.now (sym c.begins_alone.ensures ∙ c.if-begins_alone.true))
