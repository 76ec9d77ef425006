use Rattle.dm_words.proofs.Names.{arith, nat_tests}
use Rattle.dm_words.proofs.MarkedWords.{turn, piece_short, count_turn}
use Rattle.dm_words.proofs.contents.normal_form.marked_length.Goals as goal

pub slice_bounds-ascii_form-end : goal.slice_bounds-ascii_form-end
slice_bounds-ascii_form-end c =
    let t = turn _ _ _ _ (record { place = 0; number = 0 }) c.loop-mark-test.true c.loop-mark.invariant.in_order in
    omega (arith, t.within)

pub overflow_add-length : goal.overflow_add-length
overflow_add-length c =
    let t = turn _ _ _ _ (record { place = 0; number = 0 }) c.loop-mark-test.true c.loop-mark.invariant.in_order in
    let p = piece_short c.args.items.now c.loop-mark.before _ t.from t.within in
    omega (arith, t.from, t.within, p, c.ascii_form.ensures.length, c.mark_length.ensures.most, c.requires.few)

pub overflow_add-length-in-loop-mark : goal.overflow_add-length-in-loop-mark
overflow_add-length-in-loop-mark c =
    let t = turn _ _ _ _ (record { place = 0; number = 0 }) c.loop-mark-test.true c.loop-mark.invariant.in_order in
    let p = piece_short c.args.items.now c.loop-mark.before _ t.from t.within in
    omega arith

pub loop-mark-preserved : goal.loop-mark-preserved
loop-mark-preserved c =
    let t = turn _ _ _ _ (record { place = 0; number = 0 }) c.loop-mark-test.true c.loop-mark.invariant.in_order in
    let p = piece_short c.args.items.now c.loop-mark.before _ t.from t.within in
    record {
      within = t.within;
      in_order = t.in_order;
      room = omega arith;
      so_far = count_turn _ _ _ _ _ _ _ c.loop-mark.length _ _ t c.ascii_form.ensures.length c.mark_length.ensures.value
          c.loop-mark.invariant.so_far;
    }

pub overflow_add-result : goal.overflow_add-result
overflow_add-result c = grind (arith, nat_tests, piece_short)

pub returns-clause-most : goal.returns-clause-most
returns-clause-most c = grind (arith, nat_tests, piece_short)
