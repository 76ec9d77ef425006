use Rattle.std.proofs.Common.{length, take, ◌-◌, ◌≡◌, ◌≤◌, []}
use Rattle.std.specs.Io.KnownBytes.{Appends}
use Rattle.dm_text.proofs.sink.put.Given as goal

abbrev pub invariant-loop-at : goal.invariant-loop-at
invariant-loop-at g l = record {
  within : l.at ≤ length l.bytes;
  bytes : Appends (g.O.Sink.contents l.initial.sink) (g.O.Sink.contents l.sink) (take l.at l.bytes);
  unflushed : g.O.Sink.flushed l.initial.sink l.sink [];
  count : g.O.Sink.failed l.sink ≡ g.O.Sink.failed l.initial.sink;
}

abbrev pub decreases-loop-at : goal.decreases-loop-at
decreases-loop-at g l = length l.bytes - l.at
