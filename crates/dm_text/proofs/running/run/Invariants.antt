use Rattle.std.proofs.Common.{◌≡◌, ◌+◌, ◌≤◌, [], List, ℕ, length}
use Rattle.std.specs.Io.KnownBytes.{Appends}
use Rattle.dm_text.specs.Answers.{Answer}
use Rattle.dm_text.specs.Runs.{tally_of, answers_text}
use Rattle.dm_text.specs.inner.AnsweredSoFar.{IsAnsweredSoFar}
use Rattle.dm_text.proofs.running.run.Given as goal

abbrev pub invariant-pieces : goal.invariant-pieces
invariant-pieces g l = record {
  read_well : g.I.Source.failed l.source ≡ g.I.Source.failed l.initial.source;
  wrote_well : g.O.Sink.failed l.sink ≡ g.O.Sink.failed l.initial.sink;
  unflushed : g.O.Sink.flushed l.initial.sink l.sink [];
  asked : g.I.Source.asked l.initial.source l.source l.most;
  room : l.tally.answered + l.tally.refused + l.left ≤ l.most;
  so_far : (text : List ℕ) × (answers : List Answer) × g.I.Source.gave l.initial.source l.source text
      × (length text + l.left ≡ l.most)
      × IsAnsweredSoFar l.fn.task l.answering text answers
      × Appends (g.O.Sink.contents l.initial.sink) (g.O.Sink.contents l.sink) (answers_text answers)
      × (l.tally ≡ tally_of answers);
}

abbrev pub decreases-pieces : goal.decreases-pieces
decreases-pieces g l = l.left
