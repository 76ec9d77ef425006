use Rattle.dm_words.proofs.Names.{take, arith, items_in}
use Rattle.dm_words.proofs.RunLoops.{items_turn, items_stop}
use Rattle.dm_words.proofs.c40.value.read_values.Goals as goal

pub loop-count-preserved : goal.loop-count-preserved
loop-count-preserved c =
    let v = c.loop-count.invariant in
    let t = items_turn _ _ _ _ _ _ _ _ (items_in c.args.set c.args.values.now) v.in_range c.in-Takes.ensures
    c.add.ensures.added v.so_far in
    record {
      in_range = t.2;
      room = omega (arith, v.room, t.1, c.add.ensures.counted);
      same = omega (arith, v.same);
      so_far = t.0;
    }

pub loop-count-smaller : goal.loop-count-smaller
loop-count-smaller c =
    let v = c.loop-count.invariant in
    let t = items_turn _ _ _ _ _ _ _ _ (items_in c.args.set c.args.values.now) v.in_range c.in-Takes.ensures
    c.add.ensures.added v.so_far in
    omega (arith, t.1, t.2)

pub returns-in-Stops-clause-items : goal.returns-in-Stops-clause-items
returns-in-Stops-clause-items c =
    (items_stop c.args.set c.args.values.now c.loop-count.at (take c.args.held.now c.args.items.now)
    (take c.loop-count.held c.loop-count.items) c.in-Stops.rest
    (items_in c.args.set c.args.values.now) c.in-Stops.ensures c.loop-count.invariant.so_far).values

pub returns-in-Stops-clause-value_count : goal.returns-in-Stops-clause-value_count
returns-in-Stops-clause-value_count c =
    (items_stop c.args.set c.args.values.now c.loop-count.at (take c.args.held.now c.args.items.now)
    (take c.loop-count.held c.loop-count.items) c.in-Stops.rest
    (items_in c.args.set c.args.values.now) c.in-Stops.ensures c.loop-count.invariant.so_far).place_is

pub returns-in-Stops-clause-rest : goal.returns-in-Stops-clause-rest
returns-in-Stops-clause-rest c =
    (items_stop c.args.set c.args.values.now c.loop-count.at (take c.args.held.now c.args.items.now)
    (take c.loop-count.held c.loop-count.items) c.in-Stops.rest
    (items_in c.args.set c.args.values.now) c.in-Stops.ensures c.loop-count.invariant.so_far).why_is

pub overflow_add-at : goal.overflow_add-at
overflow_add-at c =
    let v = c.loop-count.invariant in
    let t = items_turn _ _ _ _ _ _ _ _ (items_in c.args.set c.args.values.now) v.in_range c.in-Takes.ensures
    c.add.ensures.added v.so_far in
    omega (arith, t.2, c.requires.room)
