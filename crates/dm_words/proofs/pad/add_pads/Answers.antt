use Rattle.dm_words.proofs.Names.{arith, length, length-take-le}
use Rattle.dm_words.proofs.PadWords.{first_left, pad_turn}
use Rattle.dm_words.proofs.pad.add_pads.Goals as goal

pub loop-held-init : goal.loop-held-init
loop-held-init c = record {
  so_far = first_left c.args.held _ (length c.args.words.now) _ _
      (length-take-le c.args.held c.args.words.now (omega arith)) (omega arith) c.add.ensures.counted
      c.add.ensures.added;
}

pub loop-held-preserved : goal.loop-held-preserved
loop-held-preserved c = record {
  so_far = pad_turn c.loop-held.held _ (length c.args.words.now) _ _ _ _ (omega arith)
      c.add-in-loop-held.ensures.counted c.pad_word.ensures c.loop-held.invariant.so_far
      c.add-in-loop-held.ensures.added;
}
