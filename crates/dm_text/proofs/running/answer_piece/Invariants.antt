use Rattle.std.proofs.Common.{◌≡◌, ◌≤◌, ◌+◌, ◌++◌, [], List, ℕ, length}
use Rattle.dm_text.specs.Answers.{Answer}
use Rattle.dm_text.specs.inner.Gathering.{IsPassedOn}
use Rattle.dm_text.specs.Runs.{tally_of, answers_text}
use Rattle.dm_text.specs.inner.AnsweredSoFar.{Advances}
use Rattle.dm_text.proofs.running.answer_piece.Given as goal

abbrev pub invariant-loop-answering : goal.invariant-loop-answering
invariant-loop-answering g l = record {
  wrote_well : g.O.Sink.failed l.sink ≡ g.O.Sink.failed l.initial.sink;
  unflushed : g.O.Sink.flushed l.fn.sink l.sink [];
  sum : l.tally.answered + l.tally.refused + length l.rest ≤ l.fn.tally.answered + l.fn.tally.refused
      + length l.fn.piece;
  so_far : (prefix : List ℕ) × (more : List Answer) × (l.fn.piece ≡ prefix ++ l.rest)
      × Advances l.fn.answering prefix more l.answering
      × IsPassedOn (g.O.Sink.contents l.fn.sink) [] (answers_text more) (g.O.Sink.contents l.sink) l.answers.text
      × ((answers : List Answer) → l.fn.tally ≡ tally_of answers → l.tally ≡ tally_of (answers ++ more));
}

abbrev pub decreases-loop-answering : goal.decreases-loop-answering
decreases-loop-answering g l = length l.rest
