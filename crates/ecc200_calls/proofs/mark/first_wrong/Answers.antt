use Rattle.ecc200_calls.proofs.Names.{refl, arith, MarkNumbers}
use Rattle.ecc200_calls.proofs.ContentNumbers.{first_is_wrong, one_more_right}
use Rattle.ecc200_calls.proofs.mark.first_wrong.Goals.{then-place-least-via-then-place-least}
use Rattle.ecc200_calls.proofs.mark.first_wrong.Goals.{then-place-least-via-else-place-least+then-place-count}
use Rattle.ecc200_calls.proofs.mark.first_wrong.Goals.{
  then-place-least-via-else-place-least+else-place-count+then-mark-gt-MOST_ASSIGNED,
}
use Rattle.ecc200_calls.proofs.mark.first_wrong.Goals as goal

-- What stands where there is no mark.
nothing : MarkNumbers
nothing = record { number = 0; place = 0 }

pub returns-then-place-least-clause-some : goal.returns-then-place-least-clause-some
unfolding nothing
returns-then-place-least-clause-some c =
    let l = c.loop-i in
    first_is_wrong c.args.count c.args.marks.now l.i l.least nothing c.loop-i-test.true l.invariant.so_far
    l.invariant.within
    (λ from within assigned. elim c.then-place-least.branch [
      | then-place-least-via-then-place-least w ↦ omega (arith, from, w.if-place-least.true)
      | then-place-least-via-else-place-least+then-place-count w ↦ omega (arith, within, w.if-place-count.true)
      | then-place-least-via-else-place-least+else-place-count+then-mark-gt-MOST_ASSIGNED w ↦
          omega (arith, assigned, w.if-mark-gt-MOST_ASSIGNED.true)
    ])

pub loop-i-preserved : goal.loop-i-preserved
unfolding nothing
loop-i-preserved c =
    let l = c.loop-i in
    record {
      within = c.if-place-count.false;
      so_far = one_more_right c.args.count c.args.marks.now l.i l.least nothing c.loop-i-test.true l.invariant.so_far
          _ _
          refl refl c.if-place-least.false c.if-mark-gt-MOST_ASSIGNED.false;
    }
