use Rattle.dm_words.proofs.Names.{◌≡◌, ◌+◌, ◌≤◌, take, drop, refl, arith, length-take, Item}
use Rattle.dm_words.specs.inner.Scan.Prefixes.{edifact_run}
use Rattle.dm_words.proofs.GroupLoops.{border_ends, group_ends, group_goes_on}
use Rattle.dm_words.proofs.edifact.edifact_part.Goals as goal

pub loop-next-init : goal.loop-next-init
loop-next-init c = record {
  from = omega arith;
  in_range = omega (arith, c.requires.in_range);
  room = omega (arith, c.requires.room);
  within = omega (arith, c.requires.room, c.requires.in_range);
  so_far = record { items = refl; count = refl };
}

pub overflow_sub-words : goal.overflow_sub-words
overflow_sub-words c = c.loop-next.invariant.in_range

pub group_part-requires : goal.group_part-requires
group_part-requires c =
    let v = c.loop-next.invariant in
    omega (arith, v.room, c.loop-next-test.true, c.requires.short)

-- Where the group ends the run, this is known of it.
pub ended : (c : goal.In-Some)
    → (c.args.at + 1 + (edifact_run (drop (c.args.at + 1) c.args.words.now)).0
    ≡ c.loop-next.next + c.in-Some.count) × (c.in-Some.count ≤ 3)
ended c =
    let e = group_ends c.args.words.now (c.args.at + 1) c.loop-next.next (take c.args.held.now c.args.items.now)
    (take c.loop-next.held c.loop-next.items)
    (take c.group_part.new.held c.group_part.new.items) c.loop-next.invariant.so_far
    (omega (arith, c.loop-next-test.true)) c.in-Some.count c.in-Some.ensures.taken in
    (e.0, e.2)

pub overflow_add-result : goal.overflow_add-result
overflow_add-result c = omega (arith, (ended c).1, c.loop-next-test.true, c.requires.short)

pub overflow_sub-result : goal.overflow_sub-result
overflow_sub-result c = omega (arith, c.loop-next.invariant.from)

pub returns-in-Some-clause-taken : goal.returns-in-Some-clause-taken
returns-in-Some-clause-taken c =
    let e = group_ends c.args.words.now (c.args.at + 1) c.loop-next.next (take c.args.held.now c.args.items.now)
    (take c.loop-next.held c.loop-next.items)
    (take c.group_part.new.held c.group_part.new.items) c.loop-next.invariant.so_far
    (omega (arith, c.loop-next-test.true)) c.in-Some.count c.in-Some.ensures.taken in
    (omega (arith, e.0), e.1)

pub loop-next-smaller : goal.loop-next-smaller
loop-next-smaller c = omega (arith, c.loop-next-test.true)

pub loop-next-preserved : goal.loop-next-preserved
loop-next-preserved c =
    let v = c.loop-next.invariant in
    let t = group_goes_on c.args.words.now (c.args.at + 1) c.loop-next.next (take c.args.held.now c.args.items.now)
    (take c.loop-next.held c.loop-next.items)
    (take c.group_part.new.held c.group_part.new.items) v.so_far
    (omega (arith, c.loop-next-test.true)) c.in_default.ensures.taken in
    record {
      from = omega (arith, v.from);
      in_range = omega (arith, c.loop-next-test.true);
      room = omega (arith, t.1, length-take {A = Item});
      within = c.group_part.ensures.within;
      so_far = t.0;
    }

pub overflow_sub-result-2 : goal.overflow_sub-result-2
overflow_sub-result-2 c = omega (arith, c.loop-next.invariant.from)

pub returns-clause-taken : goal.returns-clause-taken
returns-clause-taken c =
    let e = border_ends c.args.words.now (c.args.at + 1) c.loop-next.next (take c.args.held.now c.args.items.now)
    (take c.loop-next.held c.loop-next.items)
    (take c.loop-next.held c.loop-next.items) c.loop-next.invariant.so_far (omega (arith, c.loop-next-test.false)) in
    (omega (arith, e.0), e.1)
