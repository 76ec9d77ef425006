use Rattle.dm_symbol.proofs.Names.{◌≡◌, ◌∙◌, Some, refl, sym, ap, subst, codeword_count}
use Rattle.dm_symbol.proofs.Names.{erased_by, marked_in, words_with}
use Rattle.dm_symbol.proofs.Dealings.{erased_by_standard, erased_by_turned, size_is, turned_of_size}
use Rattle.dm_symbol.proofs.symbol.correction.mark.Goals as goal

pub returns-in-Standard-clause-marks : goal.returns-in-Standard-clause-marks
returns-in-Standard-clause-marks c b =
    let d = c.args.doubtful.now in
    let marks = words_with d.size c.lift_to.new.words in
    subst (λ x. marked_in d.size (Some marks.list) b ≡ erased_by x d.size (Some d) b) (sym c.in-Standard.is)
    (erased_by_standard d.size d marks b refl c.lift_to.ensures.holds)

pub turn_checks-requires-clause-count : goal.turn_checks-requires-clause-count
turn_checks-requires-clause-count c =
    let held = c.lift_to.ensures.holds.codewords in
    held.count ∙ ap codeword_count (size_is c.args.doubtful.now.size held.size (c.requires.dealing c.in-Restarted.is))

pub returns-in-Restarted-clause-words : goal.returns-in-Restarted-clause-words
returns-in-Restarted-clause-words c =
    let d = c.args.doubtful.now in
    rw c.turn_checks.ensures (turned_of_size d.size (c.requires.dealing c.in-Restarted.is) 1558 c.lift_to.new.words
    c.lift_to.ensures.holds.codewords)

pub returns-in-Restarted-clause-marks : goal.returns-in-Restarted-clause-marks
returns-in-Restarted-clause-marks c b =
    let d = c.args.doubtful.now in
    let held = words_with d.size c.lift_to.new.words in
    let marks = c.turn_checks.new.words in
    subst (λ x. marked_in d.size (Some marks) b ≡ erased_by x d.size (Some d) b) (sym c.in-Restarted.is)
    (erased_by_turned d.size d held marks b (c.requires.dealing c.in-Restarted.is) refl c.lift_to.ensures.holds
    (rw c.turn_checks.ensures))
