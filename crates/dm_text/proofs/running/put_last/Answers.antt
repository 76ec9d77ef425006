use Rattle.std.proofs.Common.{◌∙◌, ◌++◌, [], OnErr, OnOk, append-nil, ap, sym, subst}
use Rattle.std.specs.Io.KnownBytes.{Appends}
use Rattle.dm_text.specs.Devices.{AppendsPrefix}
use Rattle.dm_text.specs.Runs.{tally_of}
use Rattle.dm_text.specs.inner.AnsweredSoFar.{EndsAnswered}
use Rattle.dm_text.proofs.KnownBytes.{appends_none}
use Rattle.dm_text.proofs.AnsweredSoFar.{one_begun, one_more}
use Rattle.dm_text.proofs.running.put_last.Goals as goal

pub returns-else-answer_last-clause-ok : goal.returns-else-answer_last-clause-ok
returns-else-answer_last-clause-ok g c = (
  [],
  rw c.if-answer_last.false at c.answer_last.ensures.none,
  appends_none (g.O.Sink.contents c.args.sink.now),
  λ answers counted. counted ∙ ap tally_of (sym (append-nil answers)),
)

pub returns-then-answer_last-clause-ok : goal.returns-then-answer_last-clause-ok
returns-then-answer_last-clause-ok g c =
    let one = rw c.if-answer_last.true at c.answer_last.ensures.last in
    let text = one.1.0 ∙ ap (λ l. l ++ one.0.text) c.clear.ensures in
    one_more (λ last. EndsAnswered c.args.answering.now last) c.put_answers.result one.0
    (g.O.Sink.contents c.args.sink.now) (g.O.Sink.contents c.put_answers.new.sink)
    c.args.tally.now c.count_answer.new.tally one.2
    (subst (λ l. OnOk c.put_answers.result (Appends (g.O.Sink.contents c.args.sink.now)
    (g.O.Sink.contents c.put_answers.new.sink) l)) text c.put_answers.ensures.ok)
    (λ answers counted. c.count_answer.ensures.tally answers one.0 (sym (c.last_is_refusal.ensures ∙ one.1.1)) counted)

pub returns-then-answer_last-clause-err : goal.returns-then-answer_last-clause-err
returns-then-answer_last-clause-err g c =
    let one = rw c.if-answer_last.true at c.answer_last.ensures.last in
    let text = one.1.0 ∙ ap (λ l. l ++ one.0.text) c.clear.ensures in
    one_begun (λ last. EndsAnswered c.args.answering.now last) c.put_answers.result one.0
    (g.O.Sink.contents c.args.sink.now) (g.O.Sink.contents c.put_answers.new.sink) one.2
    (subst (λ l. OnErr c.put_answers.result (AppendsPrefix (g.O.Sink.contents c.args.sink.now)
    (g.O.Sink.contents c.put_answers.new.sink) l)) text c.put_answers.ensures.err)

pub returns-else-answer_last-clause-unflushed : goal.returns-else-answer_last-clause-unflushed
returns-else-answer_last-clause-unflushed g c = g.met.O.Sink.flushed_none c.args.sink.now
