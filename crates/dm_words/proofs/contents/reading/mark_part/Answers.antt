use Rattle.dm_words.proofs.Names.{◌∙◌, ◌+◌, take, sym, ap, refl, take_rest, first_designator, items_with}
use Rattle.dm_words.proofs.ContentLoops.{mark_found}
use Rattle.dm_words.proofs.contents.reading.mark_part.Goals as goal

pub returns-in-Some-clause-taken : goal.returns-in-Some-clause-taken
returns-in-Some-clause-taken c =
    mark_found (c.args.at + 1) _ _ (items_with (take c.args.marked.now c.args.marks.now) c.args.items.now)
    (items_with (take c.add_mark.new.marked c.add_mark.new.marks) c.args.items.now) (ap first_designator
    (sym (take_rest c.args.words.now (c.args.at + 1))) ∙ sym c.first_designator.ensures ∙ c.in-Some.is) refl refl
    c.add_mark.ensures.added
