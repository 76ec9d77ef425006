use Rattle.dm_words.proofs.Names.{◌+◌, ◌∙◌, take, drop, length, length-take, Item, sym, arith, Some, None, items_with}
use Rattle.dm_words.proofs.Names.{content_on}
use Rattle.dm_words.proofs.Names.{err_from_is_err_and}
use Rattle.dm_words.proofs.ContentLoops.{Leaves, goes_on, stops_on, one_words_leave}
use Rattle.dm_words.proofs.contents.reading.add_content_parts.Goals as goal
use Rattle.dm_words.proofs.contents.reading.add_content_parts.Goals.{In-Some}

-- A turn of the loop takes a part, which keeps to the words and to what is read in all, and then parts of one codeword.
pub loop-count-init : goal.loop-count-init
loop-count-init c =
    let e = c.one_word_parts-at.ensures in
    let marks = take c.args.marked.now c.args.marks.now in
    record {
      in_range = e.in_range;
      held = e.within;
      marked = c.requires.marked;
      same = omega arith;
      same_marks = omega arith;
      content = one_words_leave _ _ _ _ _ _ marks c.requires.so_far e.from (omega (arith, length-take {A = Item}))
          (omega (arith, length-take {A = Item}));
      count = e.two_for_each_codeword;
      so_far = e.said c.args.extent marks;
    }

turn : (c : In-Some)
    → Leaves c.args.extent (length c.args.items.now) c.args.words.now c.args.start c.loop-count.at c.in-Some.count
    (items_with (take c.args.marked.now c.args.marks.now) (take c.args.held.now c.args.items.now))
    (items_with (take c.next_content_part.new.marked c.next_content_part.new.marks)
    (take c.next_content_part.new.held c.next_content_part.new.items))
    (content_on c.args.extent
    (items_with (take c.args.marked.now c.args.marks.now) (take c.args.held.now c.args.items.now)) (c.args.start + 1)
    (drop c.args.start c.args.words.now))
turn c =
    let v = c.loop-count.invariant in
    goes_on _ _ _ _ _ _ (items_with (take c.args.marked.now c.args.marks.now) (take c.args.held.now c.args.items.now)) _
    (items_with (take c.next_content_part.new.marked c.next_content_part.new.marks)
    (take c.next_content_part.new.held c.next_content_part.new.items)) _
    (λ i. omega (arith, c.type_inv.words i)) v.in_range v.content (omega (arith, length-take {A = Item}))
    (rw c.in-Some.is at c.in_ok-count.ensures.taken) v.so_far

pub overflow_add-at : goal.overflow_add-at
overflow_add-at c = omega (arith, (turn (goal.at.overflow_add-at c).In-Some).in_range, c.requires.short)

pub one_word_parts-at-requires-in-Some : goal.one_word_parts-at-requires-in-Some
one_word_parts-at-requires-in-Some c =
    let r = turn (goal.at.one_word_parts-at-requires-in-Some c).In-Some in
    record {
      in_range = r.in_range;
      short = c.requires.short;
      room = omega (arith, r.content.item_room, length-take {A = Item});
    }

pub loop-count-preserved : goal.loop-count-preserved
loop-count-preserved c =
    let v = c.loop-count.invariant in
    let r = turn (goal.at.loop-count-preserved c).In-Some in
    let e = c.one_word_parts-at-in-Some.ensures in
    let part = c.next_content_part in
    record {
      in_range = e.in_range;
      held = e.within;
      marked = c.in_ok-count.ensures.marked;
      same = omega (arith, v.same);
      same_marks = omega (arith, v.same_marks);
      content = one_words_leave _ _ _ _ _ _ (take part.new.marked part.new.marks) r.content e.from
          (omega (arith, length-take {A = Item})) (omega (arith, length-take {A = Item}));
      count = omega (arith, r.count, length-take {A = Item});
      so_far = e.said c.args.extent (take part.new.marked part.new.marks) ∙ r.so_far;
    }

pub loop-count-smaller : goal.loop-count-smaller
loop-count-smaller c =
    let r = turn (goal.at.loop-count-smaller c).In-Some in
    let e = c.one_word_parts-at-in-Some.ensures in
    omega (arith, r.in_range, r.some, e.from, e.in_range)

pub returns-clause-read : goal.returns-clause-read
returns-clause-read c =
    let took = rw c.in_default.is at c.in_ok-count.ensures.taken in
    rw took.1 (sym (stops_on c.args.extent c.args.words.now c.loop-count.at
    (items_with (take c.loop-count.marked c.loop-count.marks) (take c.loop-count.held c.loop-count.items)) None _ took.0
    c.loop-count.invariant.so_far))

pub returns-in_err-count-clause-read : goal.returns-in_err-count-clause-read
returns-in_err-count-clause-read c =
    let p = err_from_is_err_and c.from_residual.result c.from_residual.ensures.1 in
    rw (p.1, p.2) (sym (stops_on _ _ _
    (items_with (take c.loop-count.marked c.loop-count.marks) (take c.loop-count.held c.loop-count.items))
    (Some c.in_err-count.field-0.0) _ c.in_err-count.ensures.taken c.loop-count.invariant.so_far))
