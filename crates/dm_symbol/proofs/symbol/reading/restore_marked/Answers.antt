use Rattle.dm_symbol.proofs.Names.{◌≡◌, ◌<◌, ◌∙◌, ℕ, Some, length, ap, subst, sym, codeword_count, erased_by, marked_in}
use Rattle.dm_symbol.proofs.SymbolBelow.{room_for}
use Rattle.dm_symbol.proofs.SymbolSteps.{blocks_move}
use Rattle.dm_symbol.proofs.symbol.reading.restore_marked.Goals as goal

pub slice_bounds-marks-end : goal.slice_bounds-marks-end
slice_bounds-marks-end g c = sym (room_for g.row.ROOM (length c.args.words.now) c.requires.room)

pub mark-requires-clause-count : goal.mark-requires-clause-count
mark-requires-clause-count g c = room_for g.row.ROOM (length c.args.words.now) c.requires.room
    ∙ c.requires.words.count ∙ ap codeword_count (sym c.requires.doubtful)

pub returns : goal.returns
returns g c =
    let s = c.args.size in
    let d = c.args.doubtful.now in
    let same : (b : ℕ) → b < s.blocks → marked_in s (Some c.mark.new.marks) b ≡ erased_by c.args.dealing s (Some d) b =
    λ b hb. subst (λ z. marked_in z (Some c.mark.new.marks) b ≡ erased_by c.args.dealing z (Some d) b)
    c.requires.doubtful (c.mark.ensures.marks b) in
    let moved = blocks_move s (marked_in s (Some c.mark.new.marks)) (erased_by c.args.dealing s (Some d)) same
    c.restore_each.result c.args.words.now c.restore_each.new.words c.restore_each.new.blocks.items
    c.restore_each.ensures.near c.restore_each.ensures.readings c.restore_each.ensures.lost in
    record { words = c.restore_each.ensures.words; near = moved.0; readings = moved.1; lost = moved.2 }
