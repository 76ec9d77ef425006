use Rattle.dm_symbol.proofs.Names.{near_but_none, length_of_block, words_with, ◌≢◌, ◌∙◌, length, refl, ap, arith, Ok}
use Rattle.dm_symbol.proofs.Names.{block_check, block_of}
use Rattle.dm_symbol.proofs.Distances.{IsPut, put_if}
use Rattle.dm_symbol.proofs.SymbolSteps.{plain_restored}
use Rattle.dm_symbol.proofs.symbol.correction.correct_block.Goals as goal
use Rattle.dm_symbol.proofs.symbol.correction.correct_block.Goals.{then-changed-gt0, else-changed-gt0}

pub returns-in_default-clause-restored : goal.returns-in_default-clause-restored
returns-in_default-clause-restored c = (
  λ other near. c.in_default.ensures.near other (near_but_none (block_check c.args.size)
      (block_of c.args.size.blocks c.args.b c.args.words.now) other near),
  refl,
)

pub put_block-requires : goal.put_block-requires
put_block-requires c =
    let some : c.in-Ok.changed ≢ 0 = λ e. omega (arith, e, c.if-changed-gt0.true) in
    record {
      words = c.requires.words;
      block = c.requires.block;
      length = omega (
        arith,
        ap length c.deref.ensures.0,
        (c.in-Ok.ensures.near some).long,
        length_of_block (words_with c.args.size c.args.words.now) c.args.b c.requires.words c.requires.block,
      );
    }

pub returns-clause-restored : goal.returns-clause-restored
returns-clause-restored c =
    let s = c.args.size in
    let k = block_check s in
    let held = block_of s.blocks c.args.b c.args.words.now in
    let n = c.in-Ok.changed in
    let found = c.codeword_near.new.fixed.items in
    let after = block_of s.blocks c.args.b c.if-changed-gt0.words in
    let put : IsPut k n held after =
    put_if k n held found after c.in-Ok.ensures.near c.in-Ok.ensures.changed
    (λ e. c.codeword_near.ensures.itself (c.in-Ok.is ∙ ap (λ m. Ok m) e))
    (λ some. elim c.if-changed-gt0.branch [
      | then-changed-gt0 x ↦ ap (block_of s.blocks c.args.b) x.words-is ∙ x.put_block.ensures.put ∙ x.deref.ensures.0
      | else-changed-gt0 x ↦ absurd (some (omega (arith, x.if-changed-gt0.false)))
    ])
    (λ none. elim c.if-changed-gt0.branch [
      | then-changed-gt0 x ↦ absurd (omega (arith, none, x.if-changed-gt0.true))
      | else-changed-gt0 x ↦ ap (block_of s.blocks c.args.b) x.words-is
    ]) in
    plain_restored k c.block_check-checks.result n held after after put.near put.counted
    c.block_check-checks.ensures.value refl
