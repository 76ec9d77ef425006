use Rattle.dm_words.proofs.Names.{◌∙◌, ◌+◌, sym, ap, take_rest, first_designator}
use Rattle.dm_words.proofs.DesignationLoops.{designator_found}
use Rattle.dm_words.proofs.contents.designation.designator_part.Goals as goal

pub returns-in-Some-clause-taken : goal.returns-in-Some-clause-taken
returns-in-Some-clause-taken c =
    designator_found _ _ _ _ _ (ap first_designator (sym (take_rest c.args.words.now (c.args.at + 1))) ∙ sym
    c.first_designator.ensures ∙ c.in-Some.is) c.add.ensures.added
