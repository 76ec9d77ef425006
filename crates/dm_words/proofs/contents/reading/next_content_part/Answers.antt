use Rattle.dm_words.proofs.Names.{◌≡◌, ◌+◌, ◌<◌, ◌∷◌, ap, arith, drop, eci_word, length, length-drop, length-take, Mark}
use Rattle.dm_words.proofs.Names.{rules, take}
use Rattle.dm_words.proofs.EciCounts.{mark_fits}
use Rattle.std.proofs.lemmas.Grind.{common_steps}
use Rattle.dm_words.proofs.contents.reading.next_content_part.Goals as goal

pub mark_part-requires-clause-room : goal.mark_part-requires-clause-room
mark_part-requires-clause-room c =
    let begins : drop c.args.at c.args.words.now ≡ eci_word ∷ drop (c.args.at + 1) c.args.words.now = search rules in
    let fits : length (take c.args.marked.now c.args.marks.now) < length c.args.marks.now =
    mark_fits (length c.args.marks.now) _ _ _ (c.requires.marks c.in-Wide.is) c.requires.so_far.marks
    (omega (arith, ap length begins, length-drop c.args.at c.args.words.now)) begins in
    omega (arith, fits, length-take {A = Mark})

pub mark_part-requires-clause-in_range : goal.mark_part-requires-clause-in_range
mark_part-requires-clause-in_range c = grind (arith, common_steps)
