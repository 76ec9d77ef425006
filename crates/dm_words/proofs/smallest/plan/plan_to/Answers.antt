use Rattle.dm_words.proofs.Names.{◌≡◌, ◌∙◌, ◌+◌, ◌-◌, ◌∷◌, ◌&&◌, cond, sym, ℕ, drop, get_or, rules, ap, subst, arith}
use Rattle.dm_words.proofs.Names.{List, length, refl, inl, inr, drop_all, length-drop, Item, ascii, IsItem, pair_first}
use Rattle.dm_words.proofs.Names.{unit_cost, Fnc1, row, going_over, with_ascii, begin_at, step_in, none_going}
use Rattle.std.proofs.lemmas.Bool.{cases_eq}
use Rattle.std.proofs.lemmas.List.{get_or_default}
use Rattle.dm_words.proofs.NormalForms.{two_words}
use Rattle.dm_words.proofs.Plans.{ascii_turn, within, turn, plan_more, plan_first, cost_most, last_costs, none_small}
use Rattle.dm_words.proofs.Plans.{going_small, digit_here, digit_last, least_small, kept_small}
use Rattle.dm_words.proofs.CostLanes.{last_zero}
use Rattle.dm_words.proofs.smallest.plan.plan_to.Goals as goal
use Rattle.dm_words.proofs.Names.{nat_tests}

pub loop-at-init : goal.loop-at-init
loop-at-init c =
    let setting = c.args.setting in
    let m = c.args.items.now in
    let costs = last_costs setting m c.with_ascii-costs.result (c.with_ascii-costs.ensures (none_going setting.behind)
    (none_small setting.behind) c.none_going-none.ensures) in
    let w = within setting m (length m) (omega (arith, c.requires.few)) c.requires.behind in
    record {
      in_range = omega arith;
      room = search rules;
      digit = sym (digit_last m);
      in_ascii = sym (ap (λ (l : List Item). length (ascii l)) (drop_all (length m) m (omega arith)));
      in_ascii_behind = sym (ap (λ (l : List Item). length (ascii l)) (drop_all (length m + 1) m (omega arith)));
      row = costs;
      within = w;
      kept = kept_small _ _ w costs;
      plan = plan_first setting m c.args.plan.now c.step_of.result c.requires.steps
          (c.step_of.ensures (none_going setting.behind) c.none_going-none.ensures);
      message = λ i other from to. absurd (omega (arith, from, to));
    }

pub choose-choice-requires-clause-zero : goal.choose-choice-requires-clause-zero
choose-choice-requires-clause-zero c =
    last_zero _ c.going_over-going.result
    (c.going_over-going.ensures _ c.loop-at.invariant.within c.loop-at.invariant.row)

pub step_of-requires-in-loop-at : goal.step_of-requires-in-loop-at
step_of-requires-in-loop-at c =
    let w = c.loop-at.invariant.within in
    let x = get_or c.args.items.now (c.loop-at.at - 1) Fnc1 in
    let next = row c.args.setting (drop c.loop-at.at c.args.items.now) in
    let g = going_over c.args.setting.extent x next in
    let cost = c.choose-choice.ensures.cost next g c.loop-at.invariant.row (going_small c.args.setting.extent x next w)
    (c.going_over-going.ensures next w c.loop-at.invariant.row) in
    omega (arith, cost, least_small x (c.is_digit_item-digit.result && c.loop-at.digit_behind) next g w)

pub with_ascii-costs-requires-in-loop-at : goal.with_ascii-costs-requires-in-loop-at
with_ascii-costs-requires-in-loop-at c =
    let w = c.loop-at.invariant.within in
    let x = get_or c.args.items.now (c.loop-at.at - 1) Fnc1 in
    let next = row c.args.setting (drop c.loop-at.at c.args.items.now) in
    let g = going_over c.args.setting.extent x next in
    let cost = c.choose-choice.ensures.cost next g c.loop-at.invariant.row (going_small c.args.setting.extent x next w)
    (c.going_over-going.ensures next w c.loop-at.invariant.row) in
    omega (arith, cost, least_small x (c.is_digit_item-digit.result && c.loop-at.digit_behind) next g w)

pub ascii_from-length-requires-clause-next : goal.ascii_from-length-requires-clause-next
ascii_from-length-requires-clause-next c = grind (arith, nat_tests, two_words, length-drop)

pub ascii_from-length-requires-clause-after : goal.ascii_from-length-requires-clause-after
ascii_from-length-requires-clause-after c = grind (arith, nat_tests, two_words, length-drop)

pub loop-at-preserved : goal.loop-at-preserved
loop-at-preserved c =
    let v = c.loop-at.invariant in
    let setting = c.args.setting in
    let m = c.args.items.now in
    let at = c.loop-at.at in
    let x = get_or m (at - 1) Fnc1 in
    let next = row setting (drop at m) in
    let w = c.loop-at.invariant.within in
    let g = going_over setting.extent x next in
    let small = going_small setting.extent x next w in
    let going = c.going_over-going.ensures next w v.row in
    let choice = c.choose-choice.result in
    let new = with_ascii choice.cost next.ascii g in
    let behind = c.loop-at.digit_behind in
    let pair = c.is_digit_item-digit.result && behind in
    let is_pair : pair ≡ pair_first (x ∷ drop at m) = cc in
    let at_again : at ≡ at - 1 + 1 = omega (arith, c.loop-at-test.true) in
    let t = turn setting m at x Fnc1 next new pair g (begin_at choice.begins) choice.cost
    (step_in c.step_of-in-loop-at.result) (omega (arith, c.loop-at-test.true)) v.in_range refl refl
    is_pair refl (c.choose-choice.ensures.cost next g v.row small going)
    (c.choose-choice.ensures.begins next g v.row small going)
    (record {
      two = c.choose-choice.ensures.pair next g v.row small going;
      one = c.choose-choice.ensures.one next g v.row small going;
    }) (c.step_of-in-loop-at.ensures g going) refl in
    let before = within setting m (at - 1) (omega (arith, c.requires.few)) c.requires.behind in
    let costs = rw (ap (λ (n : ℕ). with_ascii choice.cost n g) v.row.ascii ∙ t.0) at
    (c.with_ascii-costs-in-loop-at.ensures g small going) in
    record {
      in_range = omega (arith, v.in_range);
      room = search rules;
      digit = c.is_digit_item-digit.ensures.digit
          ∙ digit_here m at x Fnc1 (omega (arith, c.loop-at-test.true)) v.in_range refl;
      row = costs;
      within = before;
      kept = kept_small _ _ before costs;
      in_ascii = c.ascii_from-length.ensures
          ∙ ap (λ (n : ℕ). cond pair (1 + n) (unit_cost x + c.loop-at.ascii)) v.in_ascii_behind
          ∙ ap (λ (n : ℕ). cond pair (1 + length (ascii (drop (at + 1) m))) (unit_cost x + n)) v.in_ascii
          ∙ sym (ascii_turn m at x Fnc1 pair (omega (arith, c.loop-at-test.true)) v.in_range refl is_pair);
      in_ascii_behind = v.in_ascii ∙ ap (λ (i : ℕ). length (ascii (drop i m))) at_again;
      plan = plan_more setting m at c.loop-at.plan c.step_of-in-loop-at.result (omega (arith, c.loop-at-test.true))
          v.in_range (omega (arith, v.room)) t.1 v.plan;
      message = λ i other from to. elim (cases_eq i (at - 1)) [
        | inl here ↦ subst (λ (j : ℕ). IsItem (get_or m j other)) (sym here)
            (subst IsItem (get_or_default m (at - 1) Fnc1 other (omega (arith, c.loop-at-test.true, v.in_range)))
            c.is_digit_item-digit.ensures.byte)
        | inr other_place ↦ v.message i other (omega (arith, from, other_place)) to
      ];
    }

pub returns-clause-ascii : goal.returns-clause-ascii
returns-clause-ascii c =
    cc (c.loop-at.invariant.in_ascii, (let none : c.loop-at.at ≡ 0 = omega (arith, c.loop-at-test.false) in none))

pub returns-clause-message : goal.returns-clause-message
returns-clause-message c = λ i other to. c.loop-at.invariant.message i other (omega (arith, c.loop-at-test.false)) to

pub returns-clause-most : goal.returns-clause-most
returns-clause-most c = grind (arith, nat_tests, row, cost_most)
