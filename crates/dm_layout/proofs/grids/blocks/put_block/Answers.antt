use Rattle.dm_layout.proofs.Names.{◌∙◌, ◌<◌, ap, sym, subst, block_length}
use Rattle.dm_layout.specs.Words.{WordsView}
use Rattle.dm_layout.proofs.KeptSymbols.{kept_whole}
use Rattle.dm_layout.proofs.grids.blocks.put_block.Goals as goal

pub put_block_in-requires : goal.put_block_in-requires
put_block_in-requires c =
    let size = c.words.inside.symbol.size in
    let below = subst (λ (w : WordsView). c.args.b < w.size.blocks) (sym c.words.view_is) c.requires.block in
    record {
      words = rw (c.size-size.ensures.value, c.resize.ensures.value) c.size-size.ensures.words;
      block = rw c.size-size.ensures.value below;
      length = rw c.size-size.ensures.value (c.requires.length
          ∙ ap (λ (w : WordsView). block_length w.size) (sym c.words.view_is)
          ∙ sym (kept_whole size c.args.b c.words.invariant below));
    }
