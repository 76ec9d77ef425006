use Rattle.dm_symbol.proofs.Names.{◌≡◌, ◌<◌, ◌∙◌, ℕ, Some, length, ap, subst, sym, codeword_count, marked_in}
use Rattle.dm_symbol.proofs.Names.{Standard, erased_by}
use Rattle.dm_symbol.proofs.SymbolBelow.{room_for}
use Rattle.dm_symbol.proofs.SymbolSteps.{mended_moves}
use Rattle.dm_symbol.proofs.symbol.inspection.mend_marked.Goals as goal

pub slice_bounds-marks-end : goal.slice_bounds-marks-end
slice_bounds-marks-end g c = sym (room_for g.row.ROOM (length c.args.words.now) c.requires.room)

pub mark-requires-clause-count : goal.mark-requires-clause-count
mark-requires-clause-count g c = room_for g.row.ROOM (length c.args.words.now) c.requires.room
    ∙ c.requires.words.count ∙ ap codeword_count (sym c.requires.doubtful)

pub returns-clause-mended : goal.returns-clause-mended
returns-clause-mended g c =
    let s = c.args.size in
    let d = c.args.doubtful.now in
    let same : (b : ℕ) → b < s.blocks → marked_in s (Some c.mark.new.marks) b ≡ erased_by Standard s (Some d) b =
    λ b hb. subst (λ z. marked_in z (Some c.mark.new.marks) b ≡ erased_by Standard z (Some d) b) c.requires.doubtful
    (c.mark.ensures.marks b) in
    mended_moves s (marked_in s (Some c.mark.new.marks)) (erased_by Standard s (Some d)) same c.args.words.now
    c.mend_each.new.words c.mend_each.new.blocks.items c.mend_each.ensures.mended
