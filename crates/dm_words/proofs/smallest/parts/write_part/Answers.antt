use Rattle.std.proofs.lemmas.Bool.{false≢true}
use Rattle.dm_words.proofs.Names.{◌≡◌, ◌∙◌, ℕ, ◌+◌, ◌-◌, ◌++◌, List, length, drop, get_or, ap, sym, subst, arith}
use Rattle.dm_words.proofs.Names.{false, rules, take, take_rest, drop_all, All-drop, All-take, Usual, Item}
use Rattle.dm_words.proofs.Names.{Fnc1, byte_of, IsItem, digit_pair, has_fnc1, parts_cost, unit_words, nat_tests}
use Rattle.dm_words.proofs.CostsMet.{nothing_costs}
use Rattle.dm_words.proofs.SegmentBudget.{rest_is}
use Rattle.dm_words.proofs.PartBudget.{IsPairAt, one_paid, pair_paid, run_paid, edifact_paid, segment_paid, rest_paid}
use Rattle.dm_words.proofs.UnitWritten.{length-item_words, digit_byte, one_written, two_written}
use Rattle.dm_words.proofs.SignParts.{one_passes, two_passes, other_passes}
use Rattle.std.proofs.lemmas.Grind.{common_steps}
use Rattle.dm_words.proofs.smallest.parts.write_part.Goals as goal
use Rattle.dm_words.proofs.smallest.parts.write_part.Goals.{After-byte}

pub write_unit-one-requires : goal.write_unit-one-requires
write_unit-one-requires c =
    let p = one_paid c.args.setting c.args.items.now c.args.at Fnc1 _ c.requires.at
    (c.requires.plan c.args.at _ (omega (arith, c.requires.at))) c.args.held.now (length c.args.words.now)
    c.requires.budget (sym c.begin.ensures ∙ c.in-One.is) in
    omega (arith, ap length c.unit_of.ensures.words, length-item_words (get_or c.args.items.now c.args.at Fnc1))

pub returns-in-One-clause-budget : goal.returns-in-One-clause-budget
returns-in-One-clause-budget c =
    let p = one_paid c.args.setting c.args.items.now c.args.at Fnc1 _ c.requires.at
    (c.requires.plan c.args.at _ (omega (arith, c.requires.at))) c.args.held.now (length c.args.words.now)
    c.requires.budget (sym c.begin.ensures ∙ c.in-One.is) in
    omega (
      arith,
      ap length c.unit_of.ensures.words,
      length-item_words (get_or c.args.items.now c.args.at Fnc1),
      c.write_unit-one.ensures.counted,
    )

pub returns-in-One-clause-part : goal.returns-in-One-clause-part
returns-in-One-clause-part c = grind (arith, nat_tests, one_written)

pub returns-in-One-clause-usual : goal.returns-in-One-clause-usual
returns-in-One-clause-usual c = grind (arith, nat_tests, one_written, unit_words)

-- Two digits that the plan begins with are there, and paid.
pair : (c : After-byte)
    → IsPairAt c.args.setting c.args.items.now c.args.at Fnc1 c.args.held.now (length c.args.words.now)
pair c =
    pair_paid c.args.setting c.args.items.now c.args.at Fnc1 _ c.requires.at
    (c.requires.plan c.args.at _ (omega (arith, c.requires.at))) c.args.held.now (length c.args.words.now)
    c.requires.budget (omega (arith, c.requires.short)) (sym c.begin.ensures ∙ c.in-Two.is)

pub bounds-items-at-in-Two-2 : goal.bounds-items-at-in-Two-2
bounds-items-at-in-Two-2 c = (pair (goal.at.bounds-items-at-in-Two-2 c).After-byte).second_there

pub digit_pair-requires-clause-tens : goal.digit_pair-requires-clause-tens
digit_pair-requires-clause-tens c =
    let q = pair (goal.at.digit_pair-requires-clause-tens c).After-byte in
    digit_byte (get_or c.args.items.now c.args.at Fnc1) _ q.first c.byte.ensures

pub digit_pair-requires-clause-ones : goal.digit_pair-requires-clause-ones
digit_pair-requires-clause-ones c =
    let q = pair (goal.at.digit_pair-requires-clause-ones c).After-byte in
    digit_byte (get_or c.args.items.now (c.args.at + 1) Fnc1) _ q.second c.byte-in-Two.ensures

pub add-requires : goal.add-requires
add-requires c = let q = pair (goal.at.add-requires c).After-byte in omega (arith, q.paid)

pub returns-in-Two-clause-within : goal.returns-in-Two-clause-within
returns-in-Two-clause-within c = let q = pair (goal.at.returns-in-Two-clause-within c).After-byte in omega arith

pub returns-in-Two-clause-budget : goal.returns-in-Two-clause-budget
returns-in-Two-clause-budget c = let q = pair (goal.at.returns-in-Two-clause-budget c).After-byte in omega arith

pub returns-in-Two-clause-part : goal.returns-in-Two-clause-part
returns-in-Two-clause-part c =
    let q = pair (goal.at.returns-in-Two-clause-part c).After-byte in
    let word : c.digit_pair.result ≡ digit_pair (byte_of (get_or c.args.items.now c.args.at Fnc1))
    (byte_of (get_or c.args.items.now (c.args.at + 1) Fnc1)) = cc
    (c.digit_pair.ensures, c.byte.ensures, c.byte-in-Two.ensures) in
    two_written _ _ _ _ _ _ _ Fnc1 q.second_there q.first q.second word c.add.ensures.added

pub returns-in-Two-clause-usual : goal.returns-in-Two-clause-usual
returns-in-Two-clause-usual c = λ usual.
    let q = pair (goal.at.returns-in-Two-clause-usual c).After-byte in
    let word : c.digit_pair.result ≡ digit_pair (byte_of (get_or c.args.items.now c.args.at Fnc1))
    (byte_of (get_or c.args.items.now (c.args.at + 1) Fnc1)) = cc
    (c.digit_pair.ensures, c.byte.ensures, c.byte-in-Two.ensures) in
    two_written Usual _ _ _ _ _ _ Fnc1 q.second_there q.first q.second word c.add.ensures.added

pub write_run-requires : goal.write_run-requires
write_run-requires c =
    let budget =
    run_paid c.args.setting c.args.items.now c.args.at Fnc1 _ c.requires.at
    (c.requires.plan c.args.at _ (omega (arith, c.requires.at))) c.args.held.now (length c.args.words.now)
    c.requires.budget c.in-Run.set (sym c.begin.ensures ∙ c.in-Run.is) in record {
      at = c.requires.at;
      few = c.requires.few;
      steps = c.requires.steps;
      plan = c.requires.plan;
      budget = budget;
      short = c.requires.short;
    }

pub write_edifact-requires : goal.write_edifact-requires
write_edifact-requires c = grind (arith, nat_tests, edifact_paid)

pub segment_end-end-requires-clause-byte : goal.segment_end-end-requires-clause-byte
segment_end-end-requires-clause-byte c = grind (arith, nat_tests, segment_paid)

pub write_segment-requires-in-Rest : goal.write_segment-requires-in-Rest
write_segment-requires-in-Rest c =
    let p = rest_paid c.args.setting c.args.items.now c.args.at Fnc1 _ c.requires.at
    (c.requires.plan c.args.at _ (omega (arith, c.requires.at))) c.args.held.now (length c.args.words.now)
    c.requires.budget (sym c.begin.ensures ∙ c.in-Rest.is) in
    let rest = rest_is c.args.setting (drop c.args.at c.args.items.now) (omega (arith, p, c.requires.short)) in
    let bytes = subst (λ (l : List Item). has_fnc1 l ≡ false) (sym (take_rest c.args.items.now c.args.at)) rest.0 in
    let message =
    All-take IsItem (length c.args.items.now - c.args.at) (drop c.args.at c.args.items.now)
    (All-drop IsItem c.args.at c.args.items.now c.requires.message) in record {
      some = search rules;
      bytes = bytes;
      message = message;
      room = omega (arith, p, rest.1, ap length (take_rest c.args.items.now c.args.at));
      short = c.requires.short;
    }

pub returns-in-Rest-clause-budget : goal.returns-in-Rest-clause-budget
returns-in-Rest-clause-budget c = grind (arith, nat_tests, rest_paid, rest_is, parts_cost, drop_all, nothing_costs)

pub returns-in-One-clause-sign : goal.returns-in-One-clause-sign
returns-in-One-clause-sign c =
    one_passes c.args.setting c.args.items.now c.args.at Fnc1 _ (take c.args.held.now c.args.words.now)
    (take c.write_unit-one.new.held c.write_unit-one.new.words)
    c.requires.behind c.requires.few c.requires.at (c.requires.plan c.args.at _ (omega (arith, c.requires.at)))
    (sym c.begin.ensures ∙ c.in-One.is)
    (c.write_unit-one.ensures.words
    ∙ ap (λ (l : List ℕ). take c.args.held.now c.args.words.now ++ l) c.unit_of.ensures.words)

pub returns-in-Two-clause-sign : goal.returns-in-Two-clause-sign
returns-in-Two-clause-sign c =
    let q = pair (goal.at.returns-in-Two-clause-sign c).After-byte in
    let word : c.digit_pair.result ≡ digit_pair (byte_of (get_or c.args.items.now c.args.at Fnc1))
    (byte_of (get_or c.args.items.now (c.args.at + 1) Fnc1)) = cc
    (c.digit_pair.ensures, c.byte.ensures, c.byte-in-Two.ensures) in
    two_passes _ _ Fnc1 _ _ q.second_there q.first q.second _ word c.add.ensures.added

pub returns-in-Run-clause-sign : goal.returns-in-Run-clause-sign
returns-in-Run-clause-sign c =
    let w = c.write_run.ensures.part c.args.setting.extent in
    other_passes c.args.setting c.args.items.now c.args.at Fnc1 _ (take c.args.held.now c.args.words.now)
    (take c.write_run.new.held c.write_run.new.words)
    c.requires.behind c.requires.few c.requires.at (c.requires.plan c.args.at _ (omega (arith, c.requires.at)))
    (drop c.write_run.result c.args.items.now) w.part
    (λ e. (let f = sym c.in-Run.is ∙ c.begin.ensures ∙ e in cc))
    (λ e. (let f = sym c.in-Run.is ∙ c.begin.ensures ∙ e in cc)) w.whole

pub returns-in-Edifact-clause-sign : goal.returns-in-Edifact-clause-sign
returns-in-Edifact-clause-sign c =
    let w = c.write_edifact.ensures.part in
    other_passes c.args.setting c.args.items.now c.args.at Fnc1 _ (take c.args.held.now c.args.words.now)
    (take c.write_edifact.new.held c.write_edifact.new.words)
    c.requires.behind c.requires.few c.requires.at (c.requires.plan c.args.at _ (omega (arith, c.requires.at)))
    (drop c.write_edifact.result c.args.items.now) w.part
    (λ e. (let f = sym c.in-Edifact.is ∙ c.begin.ensures ∙ e in cc))
    (λ e. (let f = sym c.in-Edifact.is ∙ c.begin.ensures ∙ e in cc)) w.whole

pub returns-in-Segment-clause-sign : goal.returns-in-Segment-clause-sign
returns-in-Segment-clause-sign c =
    let w = c.write_segment.ensures.part c.args.setting.extent in
    other_passes c.args.setting c.args.items.now c.args.at Fnc1 _ (take c.args.held.now c.args.words.now)
    (take c.write_segment.new.held c.write_segment.new.words)
    c.requires.behind c.requires.few c.requires.at (c.requires.plan c.args.at _ (omega (arith, c.requires.at)))
    (drop c.segment_end-end.result c.args.items.now) w.part
    (λ e. (let f = sym c.in-Segment.is ∙ c.begin.ensures ∙ e in cc))
    (λ e. (let f = sym c.in-Segment.is ∙ c.begin.ensures ∙ e in cc)) w.whole

pub returns-in-Rest-clause-sign : goal.returns-in-Rest-clause-sign
returns-in-Rest-clause-sign c =
    let w = c.write_segment-in-Rest.ensures.part c.args.setting.extent in
    other_passes c.args.setting c.args.items.now c.args.at Fnc1 _ (take c.args.held.now c.args.words.now)
    (take c.write_segment-in-Rest.new.held c.write_segment-in-Rest.new.words)
    c.requires.behind c.requires.few c.requires.at (c.requires.plan c.args.at _ (omega (arith, c.requires.at)))
    (drop (length c.args.items.now) c.args.items.now) w.part
    (λ e. (let f = sym c.in-Rest.is ∙ c.begin.ensures ∙ e in cc))
    (λ e. (let f = sym c.in-Rest.is ∙ c.begin.ensures ∙ e in cc)) w.whole

pub returns-in-Edifact-clause-usual : goal.returns-in-Edifact-clause-usual
returns-in-Edifact-clause-usual c = λ usual. absurd (false≢true usual)

pub write_segment-requires-clause-message : goal.write_segment-requires-clause-message
write_segment-requires-clause-message c = grind (arith, common_steps)
