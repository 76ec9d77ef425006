use Rattle.std.proofs.Common.{inl, rules}
use Rattle.dm_text.specs.Runs.{answers_text}
use Rattle.dm_text.proofs.Flushes.{flushed_badly, flushed_well, on_error}
use Rattle.dm_text.proofs.KnownBytes.{appends_kept}
use Rattle.dm_text.proofs.AnsweredSoFar.{all_flushed, not_flushed}
use Rattle.dm_text.proofs.running.end.Goals as goal

pub returns-clause-ok : goal.returns-clause-ok
returns-clause-ok g c =
    all_flushed c.flush.result (g.O.Sink.contents c.args.sink.now) (g.O.Sink.contents c.put_last.new.sink)
    (g.O.Sink.contents c.flush.new.self)
    c.in_ok-put_last.ensures.ok c.flush.ensures.bytes

pub returns-clause-err : goal.returns-clause-err
returns-clause-err g c =
    not_flushed c.flush.result (g.O.Sink.contents c.args.sink.now) (g.O.Sink.contents c.put_last.new.sink)
    (g.O.Sink.contents c.flush.new.self)
    c.in_ok-put_last.ensures.ok c.flush.ensures.bytes

pub returns-clause-held : goal.returns-clause-held
returns-clause-held g c =
    flushed_well (g.O.Sink.flushed c.args.sink.now c.put_last.new.sink)
    (g.O.Sink.flushed c.put_last.new.sink c.flush.new.self)
    (g.O.Sink.flushed c.args.sink.now c.flush.new.self) c.flush.result
    (g.O.Sink.contents c.args.sink.now) (g.O.Sink.contents c.put_last.new.sink) (g.O.Sink.contents c.flush.new.self)
    (answers_text c.in_ok-put_last.ensures.ok.0)
    (g.met.O.Sink.flushed_joined c.args.sink.now c.put_last.new.sink c.flush.new.self) c.put_last.ensures.unflushed
    c.in_ok-put_last.ensures.ok.2 c.flush.ensures.held

pub returns-clause-late : goal.returns-clause-late
returns-clause-late g c =
    let e = c.in_ok-put_last.ensures.ok in
    flushed_badly _ (g.O.Sink.flushed c.args.sink.now c.put_last.new.sink)
    (g.O.Sink.flushed c.put_last.new.sink c.flush.new.self)
    (g.O.Sink.flushed c.args.sink.now c.flush.new.self) c.flush.result
    (g.O.Sink.contents c.args.sink.now) (g.O.Sink.contents c.put_last.new.sink) (g.O.Sink.contents c.flush.new.self)
    (answers_text e.0)
    (g.met.O.Sink.flushed_joined c.args.sink.now c.put_last.new.sink c.flush.new.self) c.put_last.ensures.unflushed e.2
    c.flush.ensures.held (
      e.0,
      e.1,
      appends_kept (g.O.Sink.contents c.args.sink.now) (g.O.Sink.contents c.put_last.new.sink)
          (g.O.Sink.contents c.flush.new.self) (answers_text e.0) e.2 c.flush.ensures.bytes,
      e.3,
    )

pub returns-in_err-put_last-clause-late : goal.returns-in_err-put_last-clause-late
returns-in_err-put_last-clause-late g c = on_error c.from_residual.result _ (inl c.put_last.ensures.unflushed)

pub returns-clause-flushed : goal.returns-clause-flushed
returns-clause-flushed g c = search rules depth 1
