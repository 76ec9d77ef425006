use Rattle.dm_layout.proofs.Names.{◌≡◌, ◌+◌, ◌*◌, ◌∙◌, ℕ, sym, refl, ap, [], ◌∷◌, ◌++◌, map, get_or, length, arith}
use Rattle.dm_layout.proofs.Names.{lit<, range_with_len, length-map-range_with_len, count_in_block, words_with}
use Rattle.std.proofs.lemmas.List.FromFn.{map-range_with_len_more}
use Rattle.dm_layout.proofs.symbols.TableEntries.{short_block}
use Rattle.dm_layout.proofs.symbols.BlockLemmas.{steps_of_block, walk_of_block, data_of_block}
use Rattle.dm_layout.proofs.symbols.blocks.block.Goals as goal

pub push-requires : goal.push-requires
push-requires c =
    let w = words_with c.args.size c.args.words.now in
    let steps = steps_of_block w c.blocks-blocks.result c.args.b c.args.words.now c.requires.words
    c.blocks-blocks.ensures.value refl in
    let far = short_block c.args.size c.requires.words.size c.args.b c.requires.block in
    let so_far : length c.loop-i.block.items ≡ c.loop-i.i =
    rw (c.loop-i.invariant, length-map-range_with_len) in
    (lit< tt, omega (arith, steps, far, so_far))

pub loop-i-preserved : goal.loop-i-preserved
loop-i-preserved c =
    let at : ℕ → ℕ = λ k. get_or c.args.words.now (k * c.blocks-blocks.result + c.args.b) 0 in
    c.push.ensures.items ∙ ap (λ xs. xs ++ at c.loop-i.i ∷ []) c.loop-i.invariant
    ∙ sym (map-range_with_len_more at 0 c.loop-i.i c.loop-i.i (omega arith))

pub returns-clause-value : goal.returns-clause-value
returns-clause-value c =
    let all : c.loop-i.i ≡ count_in_block (length c.args.words.now) c.blocks-blocks.result c.args.b = omega arith in
    c.loop-i.invariant
    ∙ ap (λ m. map (λ k. get_or c.args.words.now (k * c.blocks-blocks.result + c.args.b) 0) (range_with_len 0 m)) all
    ∙ walk_of_block (words_with c.args.size c.args.words.now) c.blocks-blocks.result c.args.b c.args.words.now
    c.requires.block c.blocks-blocks.ensures.value refl

pub returns-clause-length : goal.returns-clause-length
returns-clause-length c =
    let all : c.loop-i.i ≡ count_in_block (length c.args.words.now) c.blocks-blocks.result c.args.b = omega arith in
    ap length c.loop-i.invariant
    ∙ length-map-range_with_len (λ k. get_or c.args.words.now (k * c.blocks-blocks.result + c.args.b) 0) 0 c.loop-i.i
    ∙ all ∙ steps_of_block (words_with c.args.size c.args.words.now) c.blocks-blocks.result c.args.b
    c.args.words.now c.requires.words c.blocks-blocks.ensures.value refl

pub returns-clause-data : goal.returns-clause-data
returns-clause-data c =
    rw (
      returns-clause-value c,
      data_of_block (words_with c.args.size c.args.words.now) c.args.b c.requires.words
          c.requires.block,
    )
