use Rattle.std.proofs.Common.{◌∙◌, take, drop, sym, arith, length-drop, length-take, ℕ, []}
use Rattle.std.proofs.lemmas.List.{take-append-drop}
use Rattle.dm_text.proofs.Flushes.{on_error}
use Rattle.dm_text.proofs.KnownBytes.{appends_kept, appends_next}
use Rattle.dm_text.proofs.sink.put.Goals as goal

pub loop-at-smaller : goal.loop-at-smaller
loop-at-smaller g c = grind (arith, length-take {A = ℕ}, length-drop {A = ℕ})

pub loop-at-preserved : goal.loop-at-preserved
loop-at-preserved g c = record {
  within = omega (arith, c.in_ok-taken.ensures.bound, length-take {A = ℕ}, length-drop {A = ℕ});
  bytes =
      appends_next (g.O.Sink.contents c.args.sink.now) (g.O.Sink.contents c.loop-at.sink)
      (g.O.Sink.contents c.write.new.self)
      c.args.bytes.now c.loop-at.at c.in_ok-taken.taken c.loop-at.invariant.bytes c.in_ok-taken.ensures.bytes;
  unflushed =
      g.met.O.Sink.flushed_joined c.args.sink.now c.loop-at.sink c.write.new.self [] [] c.loop-at.invariant.unflushed
      c.in_ok-taken.ensures.unflushed;
  count = c.in_ok-taken.ensures.count ∙ c.loop-at.invariant.count;
}

pub returns-in_err-taken-clause-err : goal.returns-in_err-taken-clause-err
returns-in_err-taken-clause-err g c = on_error c.from_residual.result _ (
  take c.loop-at.at c.args.bytes.now,
  drop c.loop-at.at c.args.bytes.now,
  sym (take-append-drop c.loop-at.at c.args.bytes.now),
  appends_kept (g.O.Sink.contents c.args.sink.now) (g.O.Sink.contents c.loop-at.sink)
      (g.O.Sink.contents c.write.new.self)
      (take c.loop-at.at c.args.bytes.now) c.loop-at.invariant.bytes c.in_err-taken.ensures.bytes,
)

pub returns-in_err-taken-clause-unflushed : goal.returns-in_err-taken-clause-unflushed
returns-in_err-taken-clause-unflushed g c =
    g.met.O.Sink.flushed_joined c.args.sink.now c.loop-at.sink c.write.new.self [] [] c.loop-at.invariant.unflushed
    c.in_err-taken.ensures.unflushed

pub returns-clause-count : goal.returns-clause-count
returns-clause-count g c = c.loop-at.invariant.count
