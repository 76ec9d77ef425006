use Rattle.dm_symbol.proofs.Names.{subst, ContentView, Square, IsContentWritten}
use Rattle.dm_symbol.proofs.ChosenWords.{content_is}
use Rattle.dm_words.specs.Outcomes.{outcome}
use Rattle.dm_symbol.proofs.contents.normalising.write_normal_to.Goals as goal

pub returns-clause-written : goal.returns-clause-written
returns-clause-written g c =
    subst (λ (l : ContentView). IsContentWritten Square c.args.profile l
    (outcome c.write_content_to.result c.write_content_to.new.symbol))
    (content_is c.args.content.now c.head.result c.items-items.result.now c.marks-marks.result.now c.head.ensures.value
    c.items-items.ensures.value c.marks-marks.ensures.value) c.write_content_to.ensures.written
