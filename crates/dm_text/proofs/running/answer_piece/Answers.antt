use Rattle.std.proofs.Common.{◌≡◌, ◌∙◌, ◌∷◌, ◌++◌, [], List, ap, append-nil, append_assoc, arith, refl, subst, sym}
use Rattle.std.proofs.Common.{take, rules, OnOk}
use Rattle.dm_text.specs.Answers.{Answer}
use Rattle.std.specs.Io.KnownBytes.{Appends}
use Rattle.dm_text.specs.Devices.{AppendsPrefix, Counts}
use Rattle.dm_text.specs.inner.Gathering.{GatheredAnswers, IsPassedOn}
use Rattle.dm_text.specs.Runs.{AreClosedAnswers, tally_of, answers_text}
use Rattle.dm_text.specs.inner.AnsweredSoFar.{Advances}
use Rattle.dm_text.proofs.Flushes.{on_error}
use Rattle.dm_text.proofs.GoingOn.{goes_on}
use Rattle.dm_text.proofs.KnownBytes.{passed_and_begun, passed_and_kept, passed_none, passed_then}
use Rattle.dm_text.proofs.Outcomes.{written_append}
use Rattle.dm_text.proofs.Pieces.{cut_again, rest_length}
use Rattle.dm_text.proofs.AnsweredSoFar.{gathered_put, advances_from_text, advances_nowhere, advances_then, on_err}
use Rattle.dm_text.proofs.AnsweredSoFar.{on_ok, so_far_closed, written_one}
use Rattle.dm_text.proofs.running.answer_piece.Goals as goal

pub loop-answering-init : goal.loop-answering-init
loop-answering-init g c = record {
  wrote_well = refl;
  unflushed = g.met.O.Sink.flushed_none c.args.sink.now;
  sum = omega arith;
  so_far = (
    [],
    [],
    refl,
    advances_nowhere c.args.answering.now,
    subst (IsPassedOn (g.O.Sink.contents c.args.sink.now) [] [] (g.O.Sink.contents c.args.sink.now))
        (sym c.clear.ensures) (passed_none (g.O.Sink.contents c.args.sink.now) []),
    λ answers counted. counted ∙ ap tally_of (sym (append-nil answers)),
  );
}

pub feed-requires : goal.feed-requires
feed-requires g c =
    let s = c.loop-answering.invariant.so_far in
    record {
      stands = advances_from_text c.args.answering.now c.loop-answering.answering s.0 s.1 c.requires.stands s.3;
      room = c.in_ok-make_room.ensures.room;
    }

pub returns-in_err-make_room-clause-err : goal.returns-in_err-make_room-clause-err
returns-in_err-make_room-clause-err g c = on_error c.from_residual.result _ (λ task text given stands.
    let s = c.loop-answering.invariant.so_far in
    let later =
    goes_on task c.loop-answering.answering (text ++ s.0) c.loop-answering.rest.now (given ++ s.1)
    (s.3 task text given stands) in
    let whole = append_assoc text s.0 c.loop-answering.rest.now ∙ ap (λ l. text ++ l) (sym s.2) in
    let all = subst (λ l. AreClosedAnswers task l ((given ++ s.1) ++ later.0)) whole later.1 in (
      s.1 ++ later.0,
      subst (AreClosedAnswers task (text ++ c.args.piece.now)) (append_assoc given s.1 later.0) all,
      passed_and_begun (g.O.Sink.contents c.args.sink.now) (g.O.Sink.contents c.loop-answering.sink)
          (g.O.Sink.contents c.make_room.new.sink) (answers_text s.1)
          c.loop-answering.answers.text (answers_text later.0) (answers_text (s.1 ++ later.0)) s.4
          c.in_err-make_room.ensures.err (written_append s.1 later.0),
    ))

pub returns-in_err-make_room-clause-unflushed : goal.returns-in_err-make_room-clause-unflushed
returns-in_err-make_room-clause-unflushed g c =
    g.met.O.Sink.flushed_joined c.args.sink.now c.loop-answering.sink c.make_room.new.sink [] []
    c.loop-answering.invariant.unflushed c.make_room.ensures.unflushed

pub returns-in_err-make_room-clause-count : goal.returns-in_err-make_room-clause-count
returns-in_err-make_room-clause-count g c =
    subst (λ n. Counts n (g.O.Sink.failed c.make_room.new.sink) c.from_residual.result)
    c.loop-answering.invariant.wrote_well (search rules)

pub returns-in_default-clause-ok : goal.returns-in_default-clause-ok
returns-in_default-clause-ok g c =
    let s = c.loop-answering.invariant.so_far in
    let all =
    advances_then c.args.answering.now c.loop-answering.answering c.feed.new.self s.0 c.loop-answering.rest.now s.1
    [] s.3 c.in_default.ensures.«open» in
    let whole = subst (λ l. Advances c.args.answering.now l (s.1 ++ []) c.feed.new.self) (sym s.2) all in
    let passed =
    passed_then (g.O.Sink.contents c.args.sink.now) (g.O.Sink.contents c.loop-answering.sink)
    (g.O.Sink.contents c.make_room.new.sink) [] c.loop-answering.answers.text
    c.make_room.new.answers.text (answers_text s.1) [] s.4 c.in_ok-make_room.ensures.ok in
    let held =
    subst (λ l. IsPassedOn (g.O.Sink.contents c.args.sink.now) [] l (g.O.Sink.contents c.make_room.new.sink)
    c.make_room.new.answers.text) (append-nil (answers_text s.1)) passed in
    gathered_put (λ more. Advances c.args.answering.now c.args.piece.now more c.feed.new.self)
    (λ more. (answers : List Answer) → c.args.tally.now ≡ tally_of answers →
    c.loop-answering.tally ≡ tally_of (answers ++ more)) c.put_answers.result
    (g.O.Sink.contents c.args.sink.now) (g.O.Sink.contents c.make_room.new.sink)
    (g.O.Sink.contents c.put_answers.new.sink) s.1 c.make_room.new.answers.text
    (subst (λ m. Advances c.args.answering.now c.args.piece.now m c.feed.new.self) (append-nil s.1) whole) s.5 held
    (subst (λ (a : GatheredAnswers). OnOk c.put_answers.result
    (Appends (g.O.Sink.contents c.make_room.new.sink) (g.O.Sink.contents c.put_answers.new.sink) a.text))
    c.in_default.ensures.same c.put_answers.ensures.ok)

pub returns-in_default-clause-sum : goal.returns-in_default-clause-sum
returns-in_default-clause-sum g c = on_ok c.put_answers.result _ (omega (arith, c.loop-answering.invariant.sum))

pub returns-in_default-clause-err : goal.returns-in_default-clause-err
returns-in_default-clause-err g c =
    on_err c.put_answers.result _ _ c.put_answers.ensures.err (λ begun task text given stands.
    let s = c.loop-answering.invariant.so_far in
    let all =
    advances_then c.args.answering.now c.loop-answering.answering c.feed.new.self s.0 c.loop-answering.rest.now s.1
    [] s.3 c.in_default.ensures.«open» in
    let whole = subst (λ l. Advances c.args.answering.now l (s.1 ++ []) c.feed.new.self) (sym s.2) all in
    let goes = subst (λ m. Advances c.args.answering.now c.args.piece.now m c.feed.new.self) (append-nil s.1) whole in
    let passed =
    passed_then (g.O.Sink.contents c.args.sink.now) (g.O.Sink.contents c.loop-answering.sink)
    (g.O.Sink.contents c.make_room.new.sink) [] c.loop-answering.answers.text
    c.make_room.new.answers.text (answers_text s.1) [] s.4 c.in_ok-make_room.ensures.ok in (
      s.1,
      so_far_closed task c.feed.new.self (text ++ c.args.piece.now) (given ++ s.1) (goes task text given stands),
      passed_and_begun (g.O.Sink.contents c.args.sink.now) (g.O.Sink.contents c.make_room.new.sink)
          (g.O.Sink.contents c.put_answers.new.sink) (answers_text s.1 ++ [])
          c.make_room.new.answers.text [] (answers_text s.1) passed
          (subst (λ (a : GatheredAnswers). AppendsPrefix (g.O.Sink.contents c.make_room.new.sink)
          (g.O.Sink.contents c.put_answers.new.sink) a.text) c.in_default.ensures.same begun)
          (sym (append-nil (answers_text s.1 ++ []) ∙ append-nil (answers_text s.1))),
    ))

pub returns-in_default-clause-unflushed : goal.returns-in_default-clause-unflushed
returns-in_default-clause-unflushed g c =
    g.met.O.Sink.flushed_joined c.args.sink.now c.make_room.new.sink c.put_answers.new.sink [] []
    (g.met.O.Sink.flushed_joined c.args.sink.now c.loop-answering.sink c.make_room.new.sink [] []
    c.loop-answering.invariant.unflushed c.make_room.ensures.unflushed)
    c.put_answers.ensures.unflushed

pub returns-in_default-clause-count : goal.returns-in_default-clause-count
returns-in_default-clause-count g c =
    subst (λ n. Counts n (g.O.Sink.failed c.put_answers.new.sink) c.put_answers.result) (c.in_ok-make_room.ensures.count
    ∙ c.loop-answering.invariant.wrote_well) c.put_answers.ensures.count

pub count_answer-requires : goal.count_answer-requires
count_answer-requires g c =
    omega (arith, c.loop-answering.invariant.sum, c.requires.room, c.in-Some.ensures.some, c.in-Some.ensures.within)

pub loop-answering-smaller : goal.loop-answering-smaller
loop-answering-smaller g c =
    omega (
      arith,
      rest_length c.loop-answering.rest.now c.in-Some.taken,
      c.in-Some.ensures.some,
      c.in-Some.ensures.within,
    )

pub loop-answering-preserved : goal.loop-answering-preserved
loop-answering-preserved g c =
    let s = c.loop-answering.invariant.so_far in
    let rest = c.loop-answering.rest.now in
    let one = c.in-Some.ensures.closed in
    let answer = one.0 in
    let passed =
    passed_then (g.O.Sink.contents c.args.sink.now) (g.O.Sink.contents c.loop-answering.sink)
    (g.O.Sink.contents c.make_room.new.sink) [] c.loop-answering.answers.text
    c.make_room.new.answers.text (answers_text s.1) [] s.4 c.in_ok-make_room.ensures.ok in
    let held =
    subst (λ l. IsPassedOn (g.O.Sink.contents c.args.sink.now) [] l (g.O.Sink.contents c.make_room.new.sink)
    c.make_room.new.answers.text) (append-nil (answers_text s.1)) passed in
    record {
      wrote_well = c.in_ok-make_room.ensures.count ∙ c.loop-answering.invariant.wrote_well;
      unflushed =
          g.met.O.Sink.flushed_joined c.args.sink.now c.loop-answering.sink c.make_room.new.sink [] []
          c.loop-answering.invariant.unflushed c.make_room.ensures.unflushed;
      sum =
          omega (
            arith,
            c.loop-answering.invariant.sum,
            c.count_answer.ensures.sum,
            rest_length rest c.in-Some.taken,
            c.in-Some.ensures.some,
            c.in-Some.ensures.within,
          );
      so_far = (
        s.0 ++ take c.in-Some.taken rest,
        s.1 ++ answer ∷ [],
        cut_again c.args.piece.now s.0 rest c.in-Some.taken s.2,
        advances_then c.args.answering.now c.loop-answering.answering c.feed.new.self s.0 (take c.in-Some.taken rest)
            s.1 (answer ∷ []) s.3 one.2,
        subst (λ bytes. IsPassedOn (g.O.Sink.contents c.args.sink.now) [] bytes (g.O.Sink.contents c.make_room.new.sink)
            c.feed.new.answers.text)
            (sym (written_append s.1 (answer ∷ []) ∙ ap (λ l. answers_text s.1 ++ l) (written_one answer)))
            (passed_and_kept (g.O.Sink.contents c.args.sink.now) (g.O.Sink.contents c.make_room.new.sink) []
            c.make_room.new.answers.text (answers_text s.1) answer.text
            c.feed.new.answers.text held one.1.0),
        λ answers counted. c.count_answer.ensures.tally (answers ++ s.1) answer
            (sym (c.last_is_refusal.ensures ∙ one.1.1)) (s.5 answers counted)
            ∙ ap tally_of (append_assoc answers s.1 (answer ∷ [])),
      );
    }
