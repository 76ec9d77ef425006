use Rattle.dm_symbol.proofs.Names.{◌∙◌, sym}
use Rattle.dm_symbol.proofs.SymbolBelow.{few_words, room_for}
use Rattle.dm_symbol.proofs.symbol.inspection.mend_restarted.Goals as goal

pub slice_bounds-room-end : goal.slice_bounds-room-end
slice_bounds-room-end c = few_words c.args.symbol.now.size c.args.words.now c.requires.words

pub slice_bounds-restored-end : goal.slice_bounds-restored-end
slice_bounds-restored-end c = sym (room_for 2178 _ (few_words c.args.symbol.now.size c.args.words.now c.requires.words))

pub restore_restarted-requires-clause-count : goal.restore_restarted-requires-clause-count
restore_restarted-requires-clause-count c =
    (room_for 2178 _ (few_words c.args.symbol.now.size c.args.words.now c.requires.words)) ∙ c.requires.words.count
