use Rattle.dm_words.proofs.Names.{get_or, ◌≡◌, ◌∙◌, ◌<◌, ℕ, ◌+◌, ◌-◌, drop, ap, arith, rules, length-take, behind_first}
use Rattle.dm_words.proofs.MarkedCosts.{IsBack, all_items, back, behind_turn, more_items}
use Rattle.dm_words.proofs.smallest.contents.marked_cost.Goals as goal
use Rattle.dm_words.proofs.smallest.contents.marked_cost.Goals.{After-from}

-- What is known of the mark before those that are counted.
before : (c : After-from)
    → IsBack c.args.seen c.args.items.now c.args.marks.now c.loop-k.k
    (get_or c.args.marks.now (c.loop-k.k - 1) (record { place = 0; number = 0 })).place
    (get_or c.args.marks.now (c.loop-k.k - 1) (record { place = 0; number = 0 })).number c.loop-k.end
before c =
    back c.args.seen c.args.items.now c.args.marks.now c.loop-k.k c.loop-k.end (record { place = 0; number = 0 })
    (omega (arith, c.loop-k-test.true)) c.loop-k.invariant.in_range c.requires.in_order c.loop-k.invariant.end_is

pub overflow_sub-from : goal.overflow_sub-from
overflow_sub-from c = let b = before (goal.at.overflow_sub-from c).After-from in omega arith

pub slice_bounds-text_cost-count : goal.slice_bounds-text_cost-count
slice_bounds-text_cost-count c = let b = before (goal.at.slice_bounds-text_cost-count c).After-from in omega arith

pub slice_bounds-text_cost-start : goal.slice_bounds-text_cost-start
slice_bounds-text_cost-start c = let b = before (goal.at.slice_bounds-text_cost-start c).After-from in omega arith

pub loop-k-preserved : goal.loop-k-preserved
loop-k-preserved c =
    let v = c.loop-k.invariant in
    let seen = c.args.seen in
    let items = c.args.items.now in
    let marks = c.args.marks.now in
    let k = c.loop-k.k in
    let end = c.loop-k.end in
    let some : 0 < k = omega (arith, c.loop-k-test.true) in
    let b = back seen items marks k end (record { place = 0; number = 0 }) some v.in_range c.requires.in_order v.end_is
    in
    let cost : c.mark_length.result + c.text_cost-text.result ≡ behind_first seen items (drop (k - 1) marks) = cc in
    record {
      in_range = omega (arith, v.in_range);
      steps = search rules;
      room = search rules;
      within = omega (arith, b.within, v.within, c.from.ensures);
      message = more_items items (c.from.result - seen) end (omega (arith, b.within, c.from.ensures))
          c.text_cost-text.ensures.message v.message;
      end_is = ap (λ (n : ℕ). n - seen) c.from.ensures ∙ b.end_is;
      cost = cost;
      few = omega (arith, length-take (end - (c.from.result - seen)) (drop (c.from.result - seen) items));
      behind = behind_turn seen items marks k _ c.loop-k.behind some v.in_range v.room cost v.behind;
    }

pub returns-clause-message : goal.returns-clause-message
returns-clause-message c = all_items _ _ c.text_cost.ensures.message c.loop-k.invariant.message
