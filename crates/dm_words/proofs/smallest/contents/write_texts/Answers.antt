use Rattle.dm_words.proofs.Names.{◌≡◌, ◌∙◌, ℕ, ◌+◌, ◌-◌, ◌∷◌, length, take, drop, get_or, ap, sym, arith, refl, rules}
use Rattle.dm_words.proofs.Names.{length-take, length-drop, All-drop, All-take, eci_word, designator}
use Rattle.dm_words.proofs.Names.{spelled, IsItem, before_words, parts_cost, marked_cost, nat_tests}
use Rattle.dm_words.proofs.ContentWritten.{nothing_said, texts_turn, texts_end}
use Rattle.dm_words.proofs.MarkedCosts.{forth, behind_few}
use Rattle.dm_words.proofs.PlainForms.{sign_turn, sign_end}
use Rattle.std.proofs.lemmas.Grind.{common_steps}
use Rattle.dm_words.proofs.smallest.contents.write_texts.Goals as goal

pub loop-k-init : goal.loop-k-init
loop-k-init c =
    let here : c.args.seen ≡ c.args.seen + 0 = omega arith in
    record {
      within = omega arith;
      steps = c.requires.steps;
      in_order = rw (← here) c.requires.in_order;
      said = nothing_said (length c.args.words.now) (take c.args.held.now c.args.words.now) c.args.seen;
      budget = omega (arith, ap (λ (p : ℕ). marked_cost p c.args.items.now c.args.marks.now) here);
      first = λ e. (refl, refl);
      sign = λ some. absurd (omega (arith, some));
    }

pub slice_bounds-write_text-end : goal.slice_bounds-write_text-end
slice_bounds-write_text-end c =
    let f = forth _ _ _ _ _ (record { place = 0; number = 0 }) c.loop-k-test.true c.loop-k.invariant.in_order in
    omega (arith, f.within, c.from.ensures)

pub write_text-requires : goal.write_text-requires
write_text-requires c =
    let v = c.loop-k.invariant in
    let seen = c.args.seen in
    let items = c.args.items.now in
    let marks = c.args.marks.now in
    let k = c.loop-k.k in
    let from = c.loop-k.from in
    let f = forth seen items marks k from (record { place = 0; number = 0 }) c.loop-k-test.true v.in_order in
    let count = c.from.result - seen - from in
    let behind = c.requires.behind k c.loop-k-test.true in
    let paid = ap (λ (p : ℕ). parts_cost (before_words (get_or c.args.behind.now k 0))
    (take (p - seen - from) (drop from items))) c.from.ensures
    ∙ ap (λ (n : ℕ). parts_cost (before_words n) (take ((get_or marks k (record { place = 0; number = 0 })).place - seen
    - from) (drop from items))) behind in record {
      few = omega (arith, c.requires.few, length-take count (drop from items), length-drop from items);
      behind = omega (
        arith,
        behind_few seen items marks k from _ _ _ f c.requires.few c.requires.few_marks c.loop-k-test.true,
      );
      message = All-take IsItem count (drop from items) (All-drop IsItem from items c.requires.message);
      steps = omega (arith, v.steps, length-take count (drop from items), length-drop from items);
      budget = omega (arith, v.budget, f.cost, paid);
      short = omega (arith, c.requires.short);
    }

pub loop-k-preserved : goal.loop-k-preserved
loop-k-preserved c =
    let v = c.loop-k.invariant in
    let seen = c.args.seen in
    let items = c.args.items.now in
    let marks = c.args.marks.now in
    let k = c.loop-k.k in
    let from = c.loop-k.from in
    let m = get_or marks k (record { place = 0; number = 0 }) in
    let f = forth seen items marks k from (record { place = 0; number = 0 }) c.loop-k-test.true v.in_order in
    let new = take c.write_text.new.held c.write_text.new.words in
    let same : length c.loop-k.words ≡ length c.args.words.now = omega arith in
    record {
      within = omega (arith, f.within, c.from.ensures);
      steps = search rules;
      in_order = rw (sym c.from.ensures) at f.in_order;
      said = texts_turn _ _ _ _ _ _ _ _ k _ _ _ _ (c.from.result - seen) f (ap (λ (p : ℕ). p - seen) c.from.ensures)
          v.said (rw same at c.write_text.ensures.parts) c.add_mark_words.ensures.added;
      budget = omega (
        arith,
        c.add_mark_words.ensures.counted,
        ap (λ (p : ℕ). marked_cost (seen + (p - seen)) (drop (p - seen) items) (drop (k + 1) marks)) c.from.ensures,
      );
      first = λ e. absurd (omega (arith, e));
      sign = λ some. sign_turn (take c.args.held.now c.args.words.now) (take c.loop-k.held c.loop-k.words) new
          (take c.add_mark_words.new.held c.add_mark_words.new.words)
          (spelled c.write_text.ensures.parts.parts) (eci_word ∷ designator m.number) seen items marks k from
          (c.from.result - seen) (record { place = 0; number = 0 }) c.loop-k-test.true
          (ap (λ (p : ℕ). p - seen) c.from.ensures) v.first v.sign c.write_text.ensures.sign
          c.write_text.ensures.parts.whole c.add_mark_words.ensures.added;
    }

pub returns-clause-said : goal.returns-clause-said
returns-clause-said c = grind (arith, nat_tests, texts_end)

pub returns-clause-sign : goal.returns-clause-sign
returns-clause-sign c =
    let v = c.loop-k.invariant in
    sign_end _ _ _ (spelled c.write_text-2.ensures.parts.parts) _ _ _ _ _ c.loop-k-test.false v.first v.sign
    c.write_text-2.ensures.sign c.write_text-2.ensures.parts.whole

pub overflow_sub-end : goal.overflow_sub-end
overflow_sub-end c = grind (arith, common_steps)

pub slice_bounds-write_text-count : goal.slice_bounds-write_text-count
slice_bounds-write_text-count c = grind (arith, common_steps)

pub slice_bounds-write_text-start : goal.slice_bounds-write_text-start
slice_bounds-write_text-start c = grind (arith, common_steps)

pub add_mark_words-requires-clause-assigned : goal.add_mark_words-requires-clause-assigned
add_mark_words-requires-clause-assigned c = grind (arith, common_steps)

pub add_mark_words-requires-clause-room : goal.add_mark_words-requires-clause-room
add_mark_words-requires-clause-room c = grind (arith, common_steps)

pub write_text-requires-2-clause-message : goal.write_text-requires-2-clause-message
write_text-requires-2-clause-message c = grind (arith, common_steps)

pub write_text-requires-2-clause-budget : goal.write_text-requires-2-clause-budget
write_text-requires-2-clause-budget c = grind (arith, common_steps)
