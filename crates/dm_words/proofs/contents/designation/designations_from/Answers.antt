use Rattle.dm_words.proofs.Names.{arith, err_from_is_err_and, refl, take}
use Rattle.dm_words.proofs.DesignationLoops.{Leaves, none_taken, goes_on, ends, fails}
use Rattle.dm_words.proofs.EciCounts.{no_marks}
use Rattle.dm_words.proofs.contents.designation.designations_from.Goals as goal
use Rattle.dm_words.proofs.contents.designation.designations_from.Goals.{In-Some}

pub loop-count-init : goal.loop-count-init
loop-count-init c =
    record {
      in_range = c.requires.in_range;
      marked = omega arith;
      same = refl;
      so_far = no_marks c.args.words.now c.args.start;
      taken = none_taken c.args.words.now c.args.start (take 0 c.args.marks.now) refl;
    }

-- A turn of the loop takes a part.
turn : (c : In-Some) → Leaves c.args.words.now c.args.start c.loop-count.at c.in-Some.count
    (take c.next_designation.new.marked c.next_designation.new.marks)
turn c =
    let v = c.loop-count.invariant in
    goes_on _ _ _ c.in-Some.count _ (take c.next_designation.new.marked c.next_designation.new.marks)
    (λ i. omega (arith, c.type_inv.words i)) v.in_range v.so_far v.taken
    (rw c.in-Some.is at c.in_ok-count.ensures.taken)

pub overflow_add-at : goal.overflow_add-at
overflow_add-at c = omega (arith, (turn (goal.at.overflow_add-at c).In-Some).in_range, c.requires.short)

pub loop-count-preserved : goal.loop-count-preserved
loop-count-preserved c =
    let r = turn (goal.at.loop-count-preserved c).In-Some in
    record {
      in_range = r.in_range;
      marked = c.in_ok-count.ensures.within;
      same = omega (arith, c.loop-count.invariant.same);
      so_far = r.marks;
      taken = r.taken;
    }

pub loop-count-smaller : goal.loop-count-smaller
loop-count-smaller c =
    let r = turn (goal.at.loop-count-smaller c).In-Some in
    omega (arith, r.in_range, r.some)

pub returns-clause-found : goal.returns-clause-found
returns-clause-found c =
    let took = rw c.in_default.is at c.in_ok-count.ensures.taken in
    rw took.1 (ends _ _ _ _ (λ i. omega (arith, c.type_inv.words i)) c.loop-count.invariant.taken took.0)

pub returns-in_err-count-clause-found : goal.returns-in_err-count-clause-found
returns-in_err-count-clause-found c =
    let p = err_from_is_err_and c.from_residual.result c.from_residual.ensures.1 in
    rw (p.1, p.2) (fails _ _ _ _ c.in_err-count.field-0.0 (λ i. omega (arith, c.type_inv.words i))
    c.loop-count.invariant.taken c.in_err-count.ensures.taken)
