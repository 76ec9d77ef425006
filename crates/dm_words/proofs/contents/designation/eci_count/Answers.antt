use Rattle.dm_words.proofs.Names.{arith}
use Rattle.dm_words.proofs.EciCounts.{all_counted, eci_counted, other_passed}
use Rattle.dm_words.proofs.contents.designation.eci_count.Goals as goal
use Rattle.dm_words.proofs.contents.designation.eci_count.Goals.{then-word, else-word}

pub loop-word-preserved : goal.loop-word-preserved
loop-word-preserved c =
    let l = c.loop-word in
    let words = c.args.words.now in elim c.if-word.branch [
      | then-word w ↦ record {
        words = rw w.count-is
            (eci_counted words l.word-index l.count c.loop-word-test.true l.invariant.words w.if-word.true);
        few = omega (arith, w.count-is, l.invariant.few);
      }
      | else-word w ↦ record {
        words = rw w.count-is
            (other_passed words l.word-index l.count c.loop-word-test.true l.invariant.words w.if-word.false);
        few = omega (arith, w.count-is, l.invariant.few);
      }
    ]

pub returns : goal.returns
returns c = all_counted _ _ _ (omega (arith, c.loop-word-test.false)) c.loop-word.invariant.words
