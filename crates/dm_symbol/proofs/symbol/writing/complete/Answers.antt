use Rattle.dm_symbol.proofs.Names.{◌∙◌, arith}
use Rattle.dm_symbol.proofs.SymbolWriteSteps.{one_more_checked}
use Rattle.dm_symbol.proofs.symbol.writing.complete.Goals as goal

pub loop-b-preserved : goal.loop-b-preserved
loop-b-preserved c = record {
  words = c.complete_block.ensures.words;
  data_words = c.complete_block.ensures.data_words ∙ c.loop-b.invariant.data_words;
  checked = one_more_checked c.args.size c.loop-b.words c.complete_block.new.words c.loop-b.b
      (omega (arith, c.loop-b-test.true, c.blocks-2.ensures.value, c.from-b-end.ensures)) c.loop-b.invariant.checked
      c.complete_block.ensures.checked c.complete_block.ensures.others;
}
