use Rattle.dm_layout.proofs.Names.{◌+◌, ◌*◌, ◌%◌, ◌<◌, ◌∙◌, sym, refl, ap, get_or, arith, words_with}
use Rattle.dm_layout.proofs.symbols.BlockLemmas.{next_inside, one_of_size, put_gives, others_stay, put_one, stay_one}
use Rattle.dm_layout.proofs.symbols.blocks.put_block.Goals as goal
use Rattle.dm_layout.proofs.symbols.blocks.put_block.Goals.{After-blocks-blocks}

pub bounds-words-i : goal.bounds-words-i
bounds-words-i c = next_inside (words_with c.args.size c.args.words.now) (words_with c.args.size c.loop-i.words)
    c.blocks-blocks.result c.args.b c.loop-i.i c.args.list.now c.loop-i.invariant.words refl
    c.blocks-blocks.ensures.value c.requires.block c.requires.length c.loop-i-test.true

pub loop-i-preserved : goal.loop-i-preserved
loop-i-preserved c =
    let same = c.blocks-blocks.ensures.value in
    let below : c.args.b < c.blocks-blocks.result = omega (arith, same, c.requires.block) in
    let inside = bounds-words-i c in
    record {
      words = one_of_size c.args.size c.loop-i.words (c.loop-i.i * c.blocks-blocks.result + c.args.b)
          (get_or c.args.list.now c.loop-i.i 0) (omega (arith, c.type_inv.list c.loop-i.i)) c.loop-i.invariant.words;
      put = put_one c.blocks-blocks.result c.args.b c.loop-i.i c.loop-i.words c.args.list.now below inside
          c.loop-i.invariant.put;
      others = stay_one c.blocks-blocks.result c.args.b c.loop-i.i _ c.loop-i.words c.args.words.now below
          c.loop-i.invariant.others;
    }

pub returns-clause-put : goal.returns-clause-put
returns-clause-put c =
    put_gives (words_with c.args.size c.args.words.now) (words_with c.args.size c.loop-i.words) c.args.b
    c.args.list.now c.loop-i.invariant.words refl c.requires.block c.requires.length
    (λ k l. cc (c.blocks-blocks.ensures.value, c.loop-i.invariant.put k (omega arith)))

pub returns-clause-others : goal.returns-clause-others
returns-clause-others c =
    λ a below other.
    others_stay (words_with c.args.size c.args.words.now) (words_with c.args.size c.loop-i.words) c.args.b a
    c.requires.words c.loop-i.invariant.words refl below other
    (λ j h. c.loop-i.invariant.others j (λ e. h (ap (λ n. j % n) (sym c.blocks-blocks.ensures.value) ∙ e)))
