use Rattle.dm_words.proofs.Names.{inl, inr, arith, ap, length-take, ◌≡◌, ℕ, ◌-◌, length, take, drop, rules, Fnc1}
use Rattle.dm_words.proofs.Names.{parts_cost}
use Rattle.dm_words.specs.declared.smallest.edifact.Group.TheVariants as group
use Rattle.dm_words.proofs.GroupsWritten.{edifact_begun, edifact_item, edifact_written}
use Rattle.dm_words.proofs.GroupBudget.{IsGroupPaidAt, first_of_groups, group_at, leave_groups, after_value, value_room}
use Rattle.dm_words.proofs.GroupBudget.{waiting_room, ended_budget}
use Rattle.dm_words.proofs.RunWritten.{run_some}
use Rattle.dm_words.proofs.smallest.edifact.write_edifact.Goals as goal
use Rattle.dm_words.proofs.smallest.edifact.write_edifact.Goals.{In-loop-words}

pub loop-words-init : goal.loop-words-init
loop-words-init c =
    let f = first_of_groups c.args.setting c.args.items.now c.args.at Fnc1
    (length (take c.add.new.held c.add.new.list)) (length c.args.words.now) c.requires.at
    (omega (arith, c.requires.budget, c.add.ensures.counted, length-take {A = ℕ}))
    (omega (arith, c.requires.short)) in
    let begun = edifact_begun (take c.args.held.now c.args.words.now)
    (take c.add.new.held c.add.new.list) c.add.ensures.added in
    record {
      from = omega arith;
      within = omega (arith, c.requires.at);
      wide = f.wide;
      held = c.push_value-group.ensures.within;
      budget = omega (arith, after_value group.Empty _ _ _ _ _ _ c.push_value-group.ensures.pushed f.budget);
      so_far = edifact_item _ _ _ group.Empty _ _ _ _ Fnc1 _ f.byte (omega arith) c.requires.at f.is f.low f.high
          c.byte.ensures (rw (ap (λ (k : ℕ). take k (drop c.args.at c.args.items.now)) zero_is) at begun)
          c.push_value-group.ensures.pushed;
    } where
      zero_is : 0 ≡ c.args.at - c.args.at
      zero_is = omega arith

-- Each item is paid where the run goes on.
goes : (c : In-loop-words)
    → IsGroupPaidAt c.args.setting c.args.items.now c.loop-words.next Fnc1 c.loop-words.group
    (length (take c.loop-words.held c.loop-words.words)) (length c.loop-words.words)
goes c =
    group_at _ _ _ Fnc1 _ _ _ _ _ (c.requires.plan c.loop-words.next _ c.loop-words.invariant.within)
    c.loop-words.invariant.budget (omega (arith, c.requires.short)) c.goes_on.ensures c.loop-words-test.true

pub bounds-items-next : goal.bounds-items-next
bounds-items-next c = (goes (goal.at.bounds-items-next c).In-loop-words).there

pub push_value-group-requires-in-loop-words : goal.push_value-group-requires-in-loop-words
push_value-group-requires-in-loop-words c =
    let b = goes (goal.at.push_value-group-requires-in-loop-words c).In-loop-words in
    record {
      small = search rules;
      group = search rules;
      room = omega (arith, value_room _ _ _ _ b.budget, length-take {A = ℕ});
    }

pub loop-words-smaller : goal.loop-words-smaller
loop-words-smaller c = omega (arith, (goes (goal.at.loop-words-smaller c).In-loop-words).there)

pub loop-words-preserved : goal.loop-words-preserved
loop-words-preserved c =
    let v = c.loop-words.invariant in
    let r = goes (goal.at.loop-words-preserved c).In-loop-words in
    record {
      from = omega (arith, v.from);
      within = omega (arith, r.there);
      wide = v.wide;
      held = c.push_value-group-in-loop-words.ensures.within;
      budget = omega (arith, after_value _ _ _ _ _ _ _ c.push_value-group-in-loop-words.ensures.pushed r.budget);
      so_far = edifact_item _ _ _ _ _ _ _ _ Fnc1 _ r.byte (omega (arith, v.from)) r.there r.is r.low r.high
          c.byte-in-loop-words.ensures v.so_far c.push_value-group-in-loop-words.ensures.pushed;
    }

pub end_run-requires : goal.end_run-requires
end_run-requires c =
    let room = waiting_room _ _ _ _ c.loop-words.invariant.budget in
    record {
      group = search rules;
      room = omega (arith, room, length-take {A = ℕ});
    }

pub returns-clause-budget : goal.returns-clause-budget
returns-clause-budget c =
    omega (
      arith,
      ended_budget _ _ (parts_cost c.args.setting (drop c.loop-words.next c.args.items.now)) _ _ (leave_groups _ _ _ _ _
          _ _ (c.requires.plan c.loop-words.next _ c.loop-words.invariant.within) c.loop-words.invariant.budget
          c.goes_on.ensures c.loop-words-test.false) c.end_run.ensures.ended,
      length-take {A = ℕ},
    )

pub returns-clause-part : goal.returns-clause-part
returns-clause-part c =
    let v = c.loop-words.invariant in
    let l = leave_groups _ _ _ _ _ _ _ (c.requires.plan c.loop-words.next _ v.within) v.budget c.goes_on.ensures
    c.loop-words-test.false in
    let same : length c.loop-words.words ≡ length c.args.words.now = omega arith in
    edifact_written c.args.setting.extent (length c.args.words.now) (take c.args.held.now c.args.words.now)
    (take c.loop-words.held c.loop-words.words) (take c.end_run.new.held c.end_run.new.words)
    (take (c.loop-words.next - c.args.at) (drop c.args.at c.args.items.now)) c.loop-words.group v.wide
    (omega (arith, waiting_room _ _ _ _ v.budget))
    (elim l [ inl p ↦ inl p.0 | inr p ↦ inr p.0 ])
    (run_some c.args.items.now c.args.at c.loop-words.next v.from v.within)
    v.so_far (rw same at c.end_run.ensures.ended)
