use Rattle.dm_words.proofs.Names.{arith, rules}
use Rattle.dm_words.proofs.MarkedWords.{turn, turn_length, last_length, add_turn}
use Rattle.dm_words.proofs.contents.normal_form.add_marked.Goals as goal

pub slice_bounds-add_ascii-end : goal.slice_bounds-add_ascii-end
slice_bounds-add_ascii-end c =
    let t = turn _ _ _ _ (record { place = 0; number = 0 }) c.loop-mark-test.true c.loop-mark.invariant.in_order in
    omega (arith, t.within)

pub add_ascii-fnc1-requires : goal.add_ascii-fnc1-requires
add_ascii-fnc1-requires c =
    let t = turn _ _ _ _ (record { place = 0; number = 0 }) c.loop-mark-test.true c.loop-mark.invariant.in_order in
    omega (arith, turn_length _ _ _ _ _ _ t, c.loop-mark.invariant.counted)

pub add_mark_words-requires : goal.add_mark_words-requires
add_mark_words-requires c =
    let t = turn _ _ _ _ (record { place = 0; number = 0 }) c.loop-mark-test.true c.loop-mark.invariant.in_order in
    record {
      assigned = t.assigned;
      room = omega (arith, turn_length _ _ _ _ _ _ t, c.loop-mark.invariant.counted, c.add_ascii-fnc1.ensures.counted);
    }

pub loop-mark-preserved : goal.loop-mark-preserved
loop-mark-preserved c =
    let t = turn _ _ _ _ (record { place = 0; number = 0 }) c.loop-mark-test.true c.loop-mark.invariant.in_order in
    let v = c.loop-mark.invariant in
    record {
      within = t.within;
      in_order = t.in_order;
      counted = omega (
        arith,
        turn_length _ _ _ _ _ _ t,
        v.counted,
        c.add_ascii-fnc1.ensures.counted,
        c.add_mark_words.ensures.counted,
      );
      so_far = add_turn _ _ _ _ _ _ _ _ _ _ t v.so_far c.add_ascii-fnc1.ensures.words c.add_mark_words.ensures.added;
    }

pub add_ascii-fnc1-requires-2 : goal.add_ascii-fnc1-requires-2
add_ascii-fnc1-requires-2 c =
    omega (
      arith,
      last_length c.args.items.now c.args.marks.now c.loop-mark.before c.loop-mark.mark-index
          c.loop-mark-test.false,
      c.loop-mark.invariant.counted,
    )
