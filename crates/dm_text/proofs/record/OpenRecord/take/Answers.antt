use Rattle.std.proofs.Common.{◌∙◌, ◌+◌, ◌<◌, ◌++◌, List, ℕ, append-nil, length, take, subst, arith}
use Rattle.dm_text.specs.Records.{IsClosedRecord}
use Rattle.dm_text.specs.RecordFacts.{AreRecordFacts}
use Rattle.dm_text.proofs.Pieces.{all_taken, go_on, go_on_by_one, rest_length}
use Rattle.dm_text.proofs.record.OpenRecord.take.Goals as goal

pub loop-at-init : goal.loop-at-init
loop-at-init c = record {
  within = omega arith;
  grown = λ text known. rw (append-nil text) known;
}

pub slice_bounds-take_characters-count : goal.slice_bounds-take_characters-count
slice_bounds-take_characters-count c = omega (arith, rest_length c.args.bytes.now c.loop-at.at)

pub overflow_add-line : goal.overflow_add-line
overflow_add-line c = omega (arith, rest_length c.args.bytes.now c.loop-at.at)

pub overflow_add-end : goal.overflow_add-end
overflow_add-end c =
    let line = c.loop-at.at + c.take_lines.result in
    omega (arith, rest_length c.args.bytes.now c.loop-at.at, rest_length c.args.bytes.now line)

pub bounds-bytes-end : goal.bounds-bytes-end
bounds-bytes-end c =
    let line = c.loop-at.at + c.take_lines.result in
    omega (arith, rest_length c.args.bytes.now c.loop-at.at, rest_length c.args.bytes.now line)

pub returns-then-push-clause-within : goal.returns-then-push-clause-within
returns-then-push-clause-within c =
    let line = c.loop-at.at + c.take_lines.result in
    omega (arith, rest_length c.args.bytes.now c.loop-at.at, rest_length c.args.bytes.now line)

pub overflow_add-at : goal.overflow_add-at
overflow_add-at c =
    let line = c.loop-at.at + c.take_lines.result in
    omega (arith, rest_length c.args.bytes.now c.loop-at.at, rest_length c.args.bytes.now line)

pub loop-at-smaller : goal.loop-at-smaller
loop-at-smaller c = omega arith

pub returns-clause-open : goal.returns-clause-open
returns-clause-open c text known =
    subst (λ (l : List ℕ). AreRecordFacts l c.loop-at.self)
    (all_taken text c.args.bytes.now c.loop-at.at c.loop-at-test.false) (c.loop-at.invariant.grown text known)

pub returns-then-end-bytes-clause-open : goal.returns-then-end-bytes-clause-open
returns-then-end-bytes-clause-open c text known =
    let bytes = c.args.bytes.now in
    let line = c.loop-at.at + c.take_lines.result in
    let lines =
    subst (λ (l : List ℕ). AreRecordFacts l c.take_lines.new.self)
    (go_on text bytes c.loop-at.at c.take_lines.result)
    (c.take_lines.ensures.grown (text ++ take c.loop-at.at bytes) (c.loop-at.invariant.grown text known)) in
    subst (λ (l : List ℕ). AreRecordFacts l c.take_characters.new.self) (go_on text bytes line c.take_characters.result
    ∙ all_taken text bytes (line + c.take_characters.result) (omega (arith, c.if-end-bytes.true)))
    (c.take_characters.ensures.grown (text ++ take line bytes) lines)

pub returns-then-push-clause-closes : goal.returns-then-push-clause-closes
returns-then-push-clause-closes c text known =
    let bytes = c.args.bytes.now in
    let line = c.loop-at.at + c.take_lines.result in
    let end = line + c.take_characters.result in
    let within : end < length bytes =
    omega (
      arith,
      c.loop-at-test.true,
      c.if-end-bytes.false,
      c.take_lines.ensures.within,
      rest_length bytes c.loop-at.at,
      c.take_characters.ensures.within,
      rest_length bytes line,
    ) in
    let lines =
    subst (λ (l : List ℕ). AreRecordFacts l c.take_lines.new.self)
    (go_on text bytes c.loop-at.at c.take_lines.result)
    (c.take_lines.ensures.grown (text ++ take c.loop-at.at bytes) (c.loop-at.invariant.grown text known)) in
    let here =
    subst (λ (l : List ℕ). AreRecordFacts l c.take_characters.new.self) (go_on text bytes line c.take_characters.result)
    (c.take_characters.ensures.grown (text ++ take line bytes) lines) in
    let same = rw c.if-push.true at c.push.ensures.same in
    let closes = rw c.if-push.true at c.push.ensures.closes in
    let last = closes (text ++ take end bytes) here in
    record {
      still_open = rw same here;
      lines = last.0;
      closed = subst (λ (l : List ℕ). IsClosedRecord l last.0) (go_on_by_one text bytes end within) last.1;
      facts_are = same ∙ last.2;
    }

pub loop-at-preserved : goal.loop-at-preserved
loop-at-preserved c =
    let bytes = c.args.bytes.now in
    let line = c.loop-at.at + c.take_lines.result in
    let end = line + c.take_characters.result in
    let within : end < length bytes =
    omega (
      arith,
      c.loop-at-test.true,
      c.if-end-bytes.false,
      c.take_lines.ensures.within,
      rest_length bytes c.loop-at.at,
      c.take_characters.ensures.within,
      rest_length bytes line,
    ) in
    let grows = rw c.if-push.false at c.push.ensures.«open» in
    record {
      within = omega (arith, within);
      grown = λ text known.
          let lines =
          subst (λ (l : List ℕ). AreRecordFacts l c.take_lines.new.self)
          (go_on text bytes c.loop-at.at c.take_lines.result)
          (c.take_lines.ensures.grown (text ++ take c.loop-at.at bytes) (c.loop-at.invariant.grown text known)) in
          let here =
          subst (λ (l : List ℕ). AreRecordFacts l c.take_characters.new.self)
          (go_on text bytes line c.take_characters.result)
          (c.take_characters.ensures.grown (text ++ take line bytes) lines) in
          subst (λ (l : List ℕ). AreRecordFacts l c.push.new.self) (go_on_by_one text bytes end within)
          (grows (text ++ take end bytes) here);
    }
