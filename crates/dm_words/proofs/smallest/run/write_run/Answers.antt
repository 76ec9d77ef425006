use Rattle.dm_words.proofs.Names.{arith, ap, subst, ◌≡◌, ℕ, ◌-◌, List, length, take, drop, rules, Item, Fnc1, Waiting}
use Rattle.dm_words.proofs.Names.{part_values, parts_cost, length-take}
use Rattle.dm_words.proofs.LowerBounds.{leave_bounds}
use Rattle.dm_words.proofs.RunWritten.{run_begun, run_more, run_some, written_unlatch, written_bare, IsRunSoFar}
use Rattle.dm_words.proofs.RunBudget.{IsPaidAt, unlatched, first_at, run_at, item_room, after_item, one_more, leave_at}
use Rattle.dm_words.proofs.smallest.run.write_run.Goals as goal
use Rattle.dm_words.proofs.smallest.run.write_run.Goals.{In-loop-set}

-- Each item is paid where the run goes on.
goes : (c : In-loop-set)
    → IsPaidAt c.args.setting c.args.set c.args.items.now c.loop-set.next Fnc1 c.loop-set.part
    (length (take c.loop-set.held c.loop-set.words)) (length c.loop-set.words)
goes c =
    run_at _ _ _ _ Fnc1 _ _ _ _ _ (c.requires.plan c.loop-set.next _ c.loop-set.invariant.within)
    c.loop-set.invariant.budget (omega (arith, c.requires.short)) c.goes_on.ensures c.loop-set-test.true

pub push_spelling-part-requires : goal.push_spelling-part-requires
push_spelling-part-requires c =
    let b =
    first_at c.args.setting c.args.set c.args.items.now c.args.at Fnc1 (length (take c.add.new.held c.add.new.list))
    (length c.args.words.now) c.requires.at
    (omega (arith, c.requires.budget, c.add.ensures.counted, length-take {A = ℕ})) (omega
    (arith, c.requires.short)) in record {
      has = b.held;
      part = search rules;
      room = omega (
        arith,
        item_room _ _ _ _ b.budget,
        ap (λ (p : Waiting). length (part_values p)) c.empty.ensures,
        length-take {A = ℕ},
      );
    }

pub loop-set-init : goal.loop-set-init
loop-set-init c =
    let f =
    first_at c.args.setting c.args.set c.args.items.now c.args.at Fnc1 (length (take c.add.new.held c.add.new.list))
    (length c.args.words.now) c.requires.at
    (omega (arith, c.requires.budget, c.add.ensures.counted, length-take {A = ℕ})) (omega (arith, c.requires.short)) in
    let begun = run_begun _ _ _ _ c.latch.ensures c.add.ensures.added in
    let pushed = rw c.empty.ensures at c.push_spelling-part.ensures.pushed in
    record {
      from = omega arith;
      within = omega (arith, c.requires.at);
      held = c.push_spelling-part.ensures.within;
      budget = omega (arith, after_item _ _ Waiting.Empty _ _ _ _ _ pushed f.budget);
      so_far = subst
          (λ (l : List Item). IsRunSoFar c.args.set (take c.args.held.now c.args.words.now)
          (take c.push_spelling-part.new.held c.push_spelling-part.new.words)
          c.push_spelling-part.result l)
          (one_more c.args.items.now c.args.at c.args.at Fnc1 (omega arith) c.requires.at)
          (run_more c.args.set (take c.args.held.now c.args.words.now) (take c.add.new.held c.add.new.list)
          (take c.push_spelling-part.new.held c.push_spelling-part.new.words)
          Waiting.Empty c.push_spelling-part.result (take (c.args.at - c.args.at) (drop c.args.at c.args.items.now)) _
          (subst (λ (l : List Item). IsRunSoFar c.args.set (take c.args.held.now c.args.words.now)
          (take c.add.new.held c.add.new.list) Waiting.Empty l)
          (ap (λ (k : ℕ). take k (drop c.args.at c.args.items.now)) zero_is) begun) pushed);
    } where
      zero_is : 0 ≡ c.args.at - c.args.at
      zero_is = omega arith

pub bounds-items-next : goal.bounds-items-next
bounds-items-next c = (goes (goal.at.bounds-items-next c).In-loop-set).there

pub push_item-part-requires : goal.push_item-part-requires
push_item-part-requires c =
    let b = goes (goal.at.push_item-part-requires c).In-loop-set in
    record {
      has = b.held;
      part = search rules;
      room = omega (arith, item_room _ _ _ _ b.budget, length-take {A = ℕ});
    }

pub loop-set-smaller : goal.loop-set-smaller
loop-set-smaller c = omega (arith, (goes (goal.at.loop-set-smaller c).In-loop-set).there)

pub loop-set-preserved : goal.loop-set-preserved
loop-set-preserved c =
    let v = c.loop-set.invariant in
    let r = goes (goal.at.loop-set-preserved c).In-loop-set in
    record {
      from = omega (arith, v.from);
      within = omega (arith, r.there);
      held = c.push_item-part.ensures.within;
      budget = omega (arith, after_item _ _ _ _ _ _ _ _ c.push_item-part.ensures.pushed r.budget);
      so_far = subst
          (λ (l : List Item). IsRunSoFar c.args.set (take c.args.held.now c.args.words.now)
          (take c.push_item-part.new.held c.push_item-part.new.words) c.push_item-part.result l)
          (one_more c.args.items.now c.args.at c.loop-set.next Fnc1 (omega (arith, v.from)) r.there)
          (run_more c.args.set (take c.args.held.now c.args.words.now) (take c.loop-set.held c.loop-set.words)
          (take c.push_item-part.new.held c.push_item-part.new.words) c.loop-set.part c.push_item-part.result
          (take (c.loop-set.next - c.args.at) (drop c.args.at c.args.items.now)) _
          v.so_far c.push_item-part.ensures.pushed);
    }

pub returns-then-words-held-gt1-clause-budget : goal.returns-then-words-held-gt1-clause-budget
returns-then-words-held-gt1-clause-budget c =
    let l = (leave_at c.args.setting c.args.set (drop c.loop-set.next c.args.items.now) _ c.loop-set.part
    (length (take c.loop-set.held c.loop-set.words)) (length c.loop-set.words) _
    (c.requires.plan c.loop-set.next _ c.loop-set.invariant.within)
    c.loop-set.invariant.budget c.goes_on.ensures c.loop-set-test.false) in
    omega (
      arith,
      unlatched (parts_cost c.args.setting (drop c.loop-set.next c.args.items.now)),
      length-take {A = ℕ},
    )

pub returns-then-words-held-gt1-clause-part : goal.returns-then-words-held-gt1-clause-part
returns-then-words-held-gt1-clause-part c =
    λ any. written_unlatch any c.args.set (length c.args.words.now) (take c.args.held.now c.args.words.now)
    (take c.loop-set.held c.loop-set.words)
    (take c.add-then-words-held-gt1.new.held c.add-then-words-held-gt1.new.list)
    (take (c.loop-set.next - c.args.at) (drop c.args.at c.args.items.now)) c.loop-set.part
    (leave_at c.args.setting c.args.set (drop c.loop-set.next c.args.items.now) _ c.loop-set.part
    (length (take c.loop-set.held c.loop-set.words)) (length c.loop-set.words) c.goes_on.result
    (c.requires.plan c.loop-set.next _ c.loop-set.invariant.within) c.loop-set.invariant.budget c.goes_on.ensures
    c.loop-set-test.false).0 (run_some c.args.items.now c.args.at c.loop-set.next c.loop-set.invariant.from
    c.loop-set.invariant.within) c.loop-set.invariant.so_far c.add-then-words-held-gt1.ensures.added

pub returns-else-words-held-gt1-clause-budget : goal.returns-else-words-held-gt1-clause-budget
returns-else-words-held-gt1-clause-budget c =
    omega (
      arith,
      (leave_at c.args.setting c.args.set (drop c.loop-set.next c.args.items.now) _ c.loop-set.part
          (length (take c.loop-set.held c.loop-set.words)) (length c.loop-set.words) c.goes_on.result
          (c.requires.plan c.loop-set.next _ c.loop-set.invariant.within) c.loop-set.invariant.budget c.goes_on.ensures
          c.loop-set-test.false).1,
      (leave_bounds 1 (parts_cost c.args.setting (drop c.loop-set.next c.args.items.now))).0,
      length-take {A = ℕ},
    )

pub returns-else-words-held-gt1-clause-part : goal.returns-else-words-held-gt1-clause-part
returns-else-words-held-gt1-clause-part c =
    λ any. written_bare any c.args.set (length c.args.words.now) (take c.args.held.now c.args.words.now)
    (take c.loop-set.held c.loop-set.words)
    (take (c.loop-set.next - c.args.at) (drop c.args.at c.args.items.now)) c.loop-set.part
    (leave_at c.args.setting c.args.set (drop c.loop-set.next c.args.items.now) _ c.loop-set.part
    (length (take c.loop-set.held c.loop-set.words)) (length c.loop-set.words) c.goes_on.result
    (c.requires.plan c.loop-set.next _ c.loop-set.invariant.within) c.loop-set.invariant.budget c.goes_on.ensures
    c.loop-set-test.false).0 (run_some c.args.items.now c.args.at c.loop-set.next c.loop-set.invariant.from
    c.loop-set.invariant.within) (omega (arith, c.if-words-held-gt1.false, length-take {A = ℕ}))
    c.loop-set.invariant.so_far
