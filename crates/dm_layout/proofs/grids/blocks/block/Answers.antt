use Rattle.dm_layout.proofs.Names.{◌∙◌, ◌<◌, ap, sym, subst, block_length}
use Rattle.dm_layout.specs.Words.{WordsView}
use Rattle.dm_layout.proofs.KeptSymbols.{kept_data, kept_whole}
use Rattle.dm_layout.proofs.grids.blocks.block.Goals as goal

pub returns-clause-length : goal.returns-clause-length
returns-clause-length c =
    let size = c.words.inside.symbol.size in
    let below = subst (λ (w : WordsView). c.args.b < w.size.blocks) (sym c.words.view_is) c.requires in
    (rw c.size.ensures.value at c.block.ensures.length) ∙ kept_whole size c.args.b c.words.invariant below
    ∙ ap (λ (w : WordsView). block_length w.size) c.words.view_is

pub returns-clause-data : goal.returns-clause-data
returns-clause-data c =
    let size = c.words.inside.symbol.size in
    let below = subst (λ (w : WordsView). c.args.b < w.size.blocks) (sym c.words.view_is) c.requires in
    let front = rw (c.size.ensures.value, c.list.ensures.value) at c.block.ensures.data in
    rw (← c.words.view_is) (cc (kept_data size c.args.b c.words.invariant below, front))
