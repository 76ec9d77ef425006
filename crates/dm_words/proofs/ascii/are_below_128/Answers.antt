use Rattle.dm_words.proofs.NormalForms.{below_turn}
use Rattle.dm_words.proofs.ascii.are_below_128.Goals as goal

pub loop-item-preserved : goal.loop-item-preserved
loop-item-preserved c =
    record {
      few = below_turn _ _ _ _ _ _ c.loop-item-test.true c.byte.ensures c.max-most.ensures c.loop-item.invariant.few;
    }
