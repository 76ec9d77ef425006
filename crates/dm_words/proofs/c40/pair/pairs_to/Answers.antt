use Rattle.dm_words.proofs.Names.{take, arith, pairs_in}
use Rattle.dm_words.proofs.RunLoops.{pairs_turn, pairs_stop, small_more}
use Rattle.dm_words.proofs.c40.pair.pairs_to.Goals as goal

pub loop-first-preserved : goal.loop-first-preserved
loop-first-preserved c =
    let v = c.loop-first.invariant in
    let g = c.in-Values.ensures in
    let t = pairs_turn _ _ _ _ _ _ _ (pairs_in c.args.words.now) (λ i. omega (arith, c.type_inv.words i)) v.in_range g.0
    c.push_values.ensures.added v.so_far in
    record {
      in_range = t.1;
      room = omega (arith, v.room, c.push_values.ensures.counted);
      same = omega (arith, v.same);
      small = small_more _ _ _ _ _ c.push_values.ensures.added v.small g.1 g.2 g.3;
      so_far = t.0;
    }

pub returns-in-Stops-clause-values : goal.returns-in-Stops-clause-values
returns-in-Stops-clause-values c =
    (pairs_stop c.args.words.now c.loop-first.at (take c.loop-first.held c.loop-first.values) c.in-Stops.end
    (pairs_in c.args.words.now)
    c.in-Stops.ensures c.loop-first.invariant.so_far).values

pub returns-in-Stops-clause-word_count : goal.returns-in-Stops-clause-word_count
returns-in-Stops-clause-word_count c =
    (pairs_stop c.args.words.now c.loop-first.at (take c.loop-first.held c.loop-first.values) c.in-Stops.end
    (pairs_in c.args.words.now)
    c.in-Stops.ensures c.loop-first.invariant.so_far).place_is

pub returns-in-Stops-clause-end : goal.returns-in-Stops-clause-end
returns-in-Stops-clause-end c =
    (pairs_stop c.args.words.now c.loop-first.at (take c.loop-first.held c.loop-first.values) c.in-Stops.end
    (pairs_in c.args.words.now)
    c.in-Stops.ensures c.loop-first.invariant.so_far).why_is
