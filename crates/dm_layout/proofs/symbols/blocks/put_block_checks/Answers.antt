use Rattle.dm_layout.proofs.Names.{◌≡◌, ◌+◌, ◌*◌, ◌%◌, ◌<◌, ◌∙◌, ℕ, refl, sym, ap, get_or, arith, block_data, WordsView}
use Rattle.dm_layout.proofs.Names.{words_with}
use Rattle.dm_layout.proofs.symbols.BlockChecks.{check_inside, check_put, finished, finished_front, finished_length}
use Rattle.dm_layout.proofs.symbols.BlockChecks.{finished_parts}
use Rattle.dm_layout.proofs.symbols.BlockLemmas.{one_of_size, put_gives, others_stay, stay_one}
use Rattle.dm_layout.proofs.symbols.blocks.put_block_checks.Goals as goal
use Rattle.dm_layout.proofs.symbols.blocks.put_block_checks.Goals.{After-from-front}

-- The codewords as they were.
abbrev before : After-from-front → WordsView
before c = words_with c.args.size c.args.words.now

-- The numbers of blocks, and of data codewords in the block, are those of the size.
facts : (c : After-from-front) → (c.from-blocks.result ≡ c.args.size.blocks)
    × (c.from-front.result ≡ block_data c.args.size c.args.b)
facts c = (cc (c.blocks-2.ensures.value), cc (c.block_data.ensures.value))

pub loop-i-init : goal.loop-i-init
loop-i-init c =
    let same = (facts (goal.at.loop-i-init c).After-from-front).0 in
    record {
      words = c.requires.words;
      put = λ k l.
          ap (λ (n : ℕ). get_or c.args.words.now (k * n + c.args.b) 0) same
          ∙ finished_front (words_with c.args.size c.args.words.now) c.args.b c.args.checks.now c.requires.words
          c.requires.block c.requires.length k (omega (arith, l));
      others = λ j h. refl;
    }

pub bounds-words-front : goal.bounds-words-front
bounds-words-front c =
    let (same, front) = facts (goal.at.bounds-words-front c).After-from-front in
    check_inside (words_with c.args.size c.args.words.now) c.args.b c.args.checks.now c.requires.words
    c.requires.block c.requires.length (words_with c.args.size c.loop-i.words) c.from-blocks.result
    c.from-front.result c.loop-i.i c.loop-i.invariant.words refl same front c.loop-i-test.true

pub loop-i-preserved : goal.loop-i-preserved
loop-i-preserved c =
    let i = c.loop-i.invariant in
    let (same, front) = facts (goal.at.loop-i-preserved c).After-from-front in
    let below : c.args.b < c.from-blocks.result = omega (arith, same, c.requires.block) in
    record {
      words = one_of_size c.args.size c.loop-i.words
          ((c.from-front.result + c.loop-i.i) * c.from-blocks.result + c.args.b) (get_or c.args.checks.now c.loop-i.i 0)
          (omega (arith, c.type_inv.checks c.loop-i.i)) i.words;
      put = check_put (words_with c.args.size c.args.words.now) c.args.b c.args.checks.now c.requires.words
          c.requires.block c.requires.length c.loop-i.words c.from-blocks.result c.from-front.result c.loop-i.i below
          front (bounds-words-front c) i.put;
      others = stay_one c.from-blocks.result c.args.b (c.from-front.result + c.loop-i.i) _ c.loop-i.words
          c.args.words.now below i.others;
    }

pub returns-clause-put : goal.returns-clause-put
returns-clause-put c =
    let w = words_with c.args.size c.args.words.now in
    let same = (facts (goal.at.returns-clause-put c).After-from-front).0 in
    let long = finished_length w c.args.b c.args.checks.now c.requires.words c.requires.block c.requires.length in
    let parts = finished_parts w c.args.b c.args.checks.now c.requires.words c.requires.block c.requires.length in
    put_gives w (words_with c.args.size c.loop-i.words) c.args.b (finished w c.args.b c.args.checks.now)
    c.loop-i.invariant.words refl c.requires.block long
    (λ k l. cc (same, c.loop-i.invariant.put k (omega (arith, l, parts, c.loop-i-test.false))))

pub returns-clause-others : goal.returns-clause-others
returns-clause-others c =
    let same = (facts (goal.at.returns-clause-others c).After-from-front).0 in
    λ a below other.
    others_stay (words_with c.args.size c.args.words.now) (words_with c.args.size c.loop-i.words) c.args.b a
    c.requires.words c.loop-i.invariant.words refl below other
    (λ j h. c.loop-i.invariant.others j (λ e. h (ap (λ n. j % n) (sym same) ∙ e)))
