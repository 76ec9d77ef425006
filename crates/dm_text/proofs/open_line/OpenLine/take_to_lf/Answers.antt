use Rattle.std.proofs.Common.{◌∙◌, ◌+◌, ◌<◌, ◌∷◌, ◌++◌, [], List, ℕ, length, take, get_or, subst, arith}
use Rattle.dm_text.specs.Texts.{HasNoLf}
use Rattle.dm_text.specs.LineFacts.{AreLineFacts}
use Rattle.dm_text.proofs.Texts.{no_lf_append}
use Rattle.dm_text.proofs.Pieces.{all_taken, cut_at, go_on, go_on_by_one, rest_length}
use Rattle.dm_text.proofs.open_line.OpenLine.take_to_lf.Goals as goal

pub returns-then-end-bytes-clause-none : goal.returns-then-end-bytes-clause-none
returns-then-end-bytes-clause-none c =
    let bytes = c.args.bytes.now in
    subst HasNoLf (go_on [] bytes c.loop-at.at c.take_plain.result
    ∙ all_taken [] bytes (c.loop-at.at + c.take_plain.result) (omega (arith, c.if-end-bytes.true)))
    (no_lf_append (take c.loop-at.at bytes) _ c.loop-at.invariant.no_lf c.take_plain.ensures.no_lf)

pub returns-then-end-bytes-clause-open : goal.returns-then-end-bytes-clause-open
returns-then-end-bytes-clause-open c line facts =
    let bytes = c.args.bytes.now in
    subst (λ (l : List ℕ). AreLineFacts l c.take_plain.new.self)
    (go_on line bytes c.loop-at.at c.take_plain.result
    ∙ all_taken line bytes (c.loop-at.at + c.take_plain.result) (omega (arith, c.if-end-bytes.true)))
    (c.take_plain.ensures.grown (line ++ take c.loop-at.at bytes) (c.loop-at.invariant.grown line facts))

pub returns-then-byte-eq-LF-clause-first : goal.returns-then-byte-eq-LF-clause-first
returns-then-byte-eq-LF-clause-first c =
    let bytes = c.args.bytes.now in
    let end = c.loop-at.at + c.take_plain.result in
    let within : end < length bytes =
    omega (
      arith,
      c.loop-at-test.true,
      c.if-end-bytes.false,
      c.take_plain.ensures.within,
      rest_length bytes c.loop-at.at,
    ) in
    record {
      whole = cut_at bytes end 10 within c.if-byte-eq-LF.true;
      no_lf =
          subst HasNoLf (go_on [] bytes c.loop-at.at c.take_plain.result)
          (no_lf_append (take c.loop-at.at bytes) _ c.loop-at.invariant.no_lf c.take_plain.ensures.no_lf);
    }

pub returns-then-byte-eq-LF-clause-before : goal.returns-then-byte-eq-LF-clause-before
returns-then-byte-eq-LF-clause-before c line facts =
    let bytes = c.args.bytes.now in
    subst (λ (l : List ℕ). AreLineFacts l c.take_plain.new.self) (go_on line bytes c.loop-at.at c.take_plain.result)
    (c.take_plain.ensures.grown (line ++ take c.loop-at.at bytes) (c.loop-at.invariant.grown line facts))

pub loop-at-preserved : goal.loop-at-preserved
loop-at-preserved c =
    let bytes = c.args.bytes.now in
    let end = c.loop-at.at + c.take_plain.result in
    let within : end < length bytes =
    omega (
      arith,
      c.loop-at-test.true,
      c.if-end-bytes.false,
      c.take_plain.ensures.within,
      rest_length bytes c.loop-at.at,
    ) in
    let before : HasNoLf (take end bytes) =
    subst HasNoLf (go_on [] bytes c.loop-at.at c.take_plain.result)
    (no_lf_append (take c.loop-at.at bytes) _ c.loop-at.invariant.no_lf c.take_plain.ensures.no_lf) in
    record {
      within = omega (arith, within);
      no_lf =
          subst HasNoLf (go_on_by_one [] bytes end within)
          (no_lf_append (take end bytes) (get_or bytes end 0 ∷ []) before (c.if-byte-eq-LF.false, tt));
      grown = λ line facts.
          let here =
          subst (λ (l : List ℕ). AreLineFacts l c.take_plain.new.self)
          (go_on line bytes c.loop-at.at c.take_plain.result)
          (c.take_plain.ensures.grown (line ++ take c.loop-at.at bytes) (c.loop-at.invariant.grown line facts)) in
          subst (λ (l : List ℕ). AreLineFacts l c.push.new.self) (go_on_by_one line bytes end within)
          (c.push.ensures (line ++ take end bytes) here);
    }

pub returns-clause-open : goal.returns-clause-open
returns-clause-open c line facts =
    subst (λ (l : List ℕ). AreLineFacts l c.loop-at.self)
    (all_taken line c.args.bytes.now c.loop-at.at c.loop-at-test.false) (c.loop-at.invariant.grown line facts)
