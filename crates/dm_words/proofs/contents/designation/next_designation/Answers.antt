use Rattle.dm_words.proofs.Names.{◌≡◌, ◌+◌, ◌<◌, ◌∷◌, ap, arith, drop, eci_word, length, length-drop, length-take, Mark}
use Rattle.dm_words.proofs.Names.{rules, sym, take, ◌∙◌}
use Rattle.dm_words.proofs.DesignationLoops.{passed_alone}
use Rattle.dm_words.proofs.EciCounts.{mark_fits}
use Rattle.dm_words.proofs.contents.designation.next_designation.Goals as goal

pub designator_part-requires-clause-room : goal.designator_part-requires-clause-room
designator_part-requires-clause-room c =
    let begins : drop c.args.at c.args.words.now ≡ eci_word ∷ drop (c.args.at + 1) c.args.words.now = search rules in
    let fits : length (take c.args.marked.now c.args.marks.now) < length c.args.marks.now =
    mark_fits (length c.args.marks.now) _ _ _ c.requires.room c.requires.so_far
    (omega (arith, ap length begins, length-drop c.args.at c.args.words.now)) begins in
    omega (arith, fits, length-take {A = Mark})

pub returns-in-Some-clause-taken : goal.returns-in-Some-clause-taken
returns-in-Some-clause-taken c =
    passed_alone _ _ c.in-Some.word (take c.args.marked.now c.args.marks.now) c.in-Some.ensures
    (sym c.is_alone.ensures ∙ c.if-is_alone.true)
