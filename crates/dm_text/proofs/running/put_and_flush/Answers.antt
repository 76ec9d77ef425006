use Rattle.std.proofs.Common.{inl}
use Rattle.std.specs.Io.KnownBytes.{Appends}
use Rattle.dm_text.proofs.Flushes.{flushed_badly, flushed_well, on_error}
use Rattle.dm_text.proofs.KnownBytes.{appends_kept}
use Rattle.dm_text.proofs.running.put_and_flush.Goals as goal

pub returns-clause-held : goal.returns-clause-held
returns-clause-held g c =
    flushed_well (g.O.Sink.flushed c.args.sink.now c.put.new.sink) (g.O.Sink.flushed c.put.new.sink c.flush.new.self)
    (g.O.Sink.flushed c.args.sink.now c.flush.new.self) c.flush.result
    (g.O.Sink.contents c.args.sink.now) (g.O.Sink.contents c.put.new.sink) (g.O.Sink.contents c.flush.new.self)
    c.args.bytes.now
    (g.met.O.Sink.flushed_joined c.args.sink.now c.put.new.sink c.flush.new.self) c.put.ensures.unflushed
    c.in_ok-put.ensures.ok c.flush.ensures.held

pub returns-clause-late : goal.returns-clause-late
returns-clause-late g c =
    flushed_badly (Appends (g.O.Sink.contents c.args.sink.now) (g.O.Sink.contents c.flush.new.self) c.args.bytes.now)
    (g.O.Sink.flushed c.args.sink.now c.put.new.sink) (g.O.Sink.flushed c.put.new.sink c.flush.new.self)
    (g.O.Sink.flushed c.args.sink.now c.flush.new.self) c.flush.result
    (g.O.Sink.contents c.args.sink.now) (g.O.Sink.contents c.put.new.sink) (g.O.Sink.contents c.flush.new.self)
    c.args.bytes.now
    (g.met.O.Sink.flushed_joined c.args.sink.now c.put.new.sink c.flush.new.self) c.put.ensures.unflushed
    c.in_ok-put.ensures.ok c.flush.ensures.held
    (appends_kept (g.O.Sink.contents c.args.sink.now) (g.O.Sink.contents c.put.new.sink)
    (g.O.Sink.contents c.flush.new.self) c.args.bytes.now c.in_ok-put.ensures.ok c.flush.ensures.bytes)

pub returns-in_err-put-clause-late : goal.returns-in_err-put-clause-late
returns-in_err-put-clause-late g c = on_error c.from_residual.result _ (inl c.put.ensures.unflushed)
