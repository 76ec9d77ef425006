-- What is written for a whole text, and how reading and writing it ends.
use Rattle.std.specs.Prelude.{◌≡◌, ◌≢◌, ◌≤◌, ◌⊎◌, ◌+◌, ◌^◌, nat_lt, if◌then◌else◌, ℕ, Bool, false, not, List, [], ◌∷◌}
use Rattle.std.specs.Prelude.{◌++◌, length, count_by, flat_map, Option, Result, IfOk, OnOk, IsErrOf}
use Rattle.std.specs.Io.KnownBytes.{Appends}
use Rattle.dm_symbol.specs.declared.Profile.{Profile}
use Rattle.dm_text.specs.declared.task.Task.{Task}
use Rattle.dm_text.specs.declared.task.Task.TheVariants.{Write, Table}
use Rattle.dm_text.specs.declared.task.Tally.{Tally}
use Rattle.dm_text.specs.declared.task.RunFault.{RunFault}
use Rattle.dm_text.specs.declared.task.RunFault.TheVariants as fault
use Rattle.dm_text.specs.Devices.{AppendsPrefix, HasRisen, IsFlushedOnce}
use Rattle.dm_text.specs.Texts.{IsSplit, last_line}
use Rattle.dm_text.specs.Records.{AreRecords, record_of}
use Rattle.dm_text.specs.RecordFeeds.{IsLastBlank}
use Rattle.dm_text.specs.MessageLines.{IsLine}
use Rattle.dm_text.specs.LineFeeds.{LineMeaning}
use Rattle.dm_text.specs.Answers.{Answer, IsRecordAnswer, IsWriteAnswer, table_text}

-- ---- what is written for a text

-- Two lists are matched if they are equally long and their members match in order.
abbrev pub AreMatched : {A B : Type 0} → (A → B → Type 0) → List A → List B → Type 0
AreMatched Matches [] [] = Unit {0}
AreMatched Matches (x ∷ xs) (y ∷ ys) = Matches x y × AreMatched Matches xs ys
AreMatched Matches _ _ = ⊥

-- A record is answered by what its lines make: a grid or a fault.
abbrev pub IsAnswerToRecord : Task → List (List ℕ) → Answer → Type 0
IsAnswerToRecord task lines answer = IsRecordAnswer task (record_of lines) answer

-- A message line is answered, under a profile, by what it means.
abbrev pub IsAnswerToLine : Profile → List ℕ → Answer → Type 0
IsAnswerToLine profile line answer =
    (message : LineMeaning) × IsLine line message × IsWriteAnswer profile message answer

-- The records in some lines are answered, each in order.
abbrev pub AreAnswersToRecords : Task → List (List ℕ) → List Answer → Type 0
AreAnswersToRecords task lines answers =
    (records : List (List (List ℕ))) × AreRecords lines records × AreMatched (IsAnswerToRecord task) records answers

-- The records or message lines of some lines are answered, each in order.
abbrev pub AreAnswersTo : Task → List (List ℕ) → List Answer → Type 0
AreAnswersTo (Write profile) lines answers = AreMatched (IsAnswerToLine profile) lines answers
AreAnswersTo task lines answers = AreAnswersToRecords task lines answers

-- All records or message lines of a text are answered; the end of the text closes the last one.
pub record AreAllAnswers (task : Task) (text : List ℕ) (answers : List Answer) : Type 0 where
  pub lines : List (List ℕ)
  pub rest : List ℕ
  pub split : IsSplit text lines rest
  pub answered : AreAnswersTo task (lines ++ last_line rest) answers

-- Of the lines of a text that LF ends, the closed ones are the prefix in which every record or message line is closed:
-- for message lines all of them, for records those up to the last empty line.
abbrev pub AreClosedLines : Task → List (List ℕ) → List (List ℕ) → Type 0
AreClosedLines (Write profile) lines closed = closed ≡ lines
AreClosedLines task lines closed = (after : List (List ℕ)) × IsLastBlank lines closed after

-- The records or message lines that are closed within a text are answered; a record is closed by an empty line after
-- it, a message line by its LF.
pub record AreClosedAnswers (task : Task) (text : List ℕ) (answers : List Answer) : Type 0 where
  pub lines : List (List ℕ)
  pub rest : List ℕ
  pub split : IsSplit text lines rest
  pub closed : List (List ℕ)
  pub are_closed : AreClosedLines task lines closed
  pub answered : AreAnswersTo task closed answers

-- For a list of answers their texts are written, one after another.
abbrev pub answers_text : List Answer → List ℕ
answers_text answers = flat_map (λ a. a.text) answers

-- The tally of some answers counts as answered those that are no refusals, and as refused those that are.
abbrev pub tally_of : List Answer → Tally
tally_of answers =
    record { answered = count_by (λ a. not a.refused) answers; refused = count_by (λ a. a.refused) answers }

-- For a text as a whole the answers to all of its records or lines are written, one after another, and counted in the
-- tally. For the table the text counts as empty: the table is written, and nothing is counted.
abbrev pub IsOut : Task → List ℕ → List ℕ → Tally → Type 0
IsOut Table text out tally = (text ≡ []) × (out ≡ table_text) × (tally ≡ tally_of [])
IsOut task text out tally =
    (answers : List Answer) × AreAllAnswers task text answers × (out ≡ answers_text answers)
    × (tally ≡ tally_of answers)

-- For a text that may go on the answers to the records or lines that are closed within it are written, one after
-- another. For the table, whose text counts as empty, the table is written.
abbrev pub IsOutSoFar : Task → List ℕ → List ℕ → Type 0
IsOutSoFar Table text done = (text ≡ []) × (done ≡ table_text)
IsOutSoFar task text done = (answers : List Answer) × AreClosedAnswers task text answers × (done ≡ answers_text answers)

-- ---- how it ends

-- Between two moments a source gave exactly these bytes (`Gave`) and saw its end (`Ended`), and a sink took exactly
-- these bytes (`Took`) or a prefix of them (`TookPrefix`), and was flushed when it had taken as many bytes as these
-- numbers say (`Flushed`).

-- The source has come to its end; for the table, which reads nothing, this always holds.
abbrev pub HasEnded : Task → Type 0 → Type 0
HasEnded Table Ended = Unit {0}
HasEnded task Ended = Ended

-- A text is answered if the source gave it, at most `most` bytes, and
-- ended, and what is written for this text as a whole was taken.
pub record IsAnswered (task : Task) (most : ℕ) (Gave : List ℕ → Type 0) (Ended : Type 0) (Took : List ℕ →
    Type 0) (tally : Tally) : Type 0 where
  pub text : List ℕ
  pub gave : Gave text
  pub ended : HasEnded task Ended
  pub within : length text ≤ most
  pub out : List ℕ
  pub is_out : IsOut task text out tally
  pub took : Took out

-- What is due so far has been written if the task reads, the source gave a text of at most `most` bytes, and the sink
-- took exactly what is written for what is closed within it.
pub record HasWrittenOutSoFar (task : Task) (most : ℕ) (Gave Took : List ℕ → Type 0) : Type 0 where
  pub reads : task ≢ Table
  pub text : List ℕ
  pub gave : Gave text
  pub within : length text ≤ most
  pub done : List ℕ
  pub is_done : IsOutSoFar task text done
  pub took : Took done

-- The input is too much if the task reads, the source gave `most` bytes and one more, and the sink took exactly what
-- is written for what is closed within the first `most` of them.
pub record IsTooMuch (task : Task) (most : ℕ) (Gave Took : List ℕ → Type 0) : Type 0 where
  pub reads : task ≢ Table
  pub text : List ℕ
  pub byte : ℕ
  pub gave : Gave (text ++ byte ∷ [])
  pub full : length text ≡ most
  pub done : List ℕ
  pub is_done : IsOutSoFar task text done
  pub took : Took done

-- The sink took a prefix of what is written for what is closed within a text.
abbrev pub HasBegunOutSoFar : Task → List ℕ → (List ℕ → Type 0) → Type 0
HasBegunOutSoFar task text TookPrefix = (done : List ℕ) × IsOutSoFar task text done × TookPrefix done

-- The sink took a prefix of what is written for a text as a whole.
abbrev pub HasBegunOut : Task → List ℕ → (List ℕ → Type 0) → Type 0
HasBegunOut task text TookPrefix = (out : List ℕ) × (tally : Tally) × IsOut task text out tally × TookPrefix out

-- A prefix has been written if the source gave a text of at most `most` bytes, and the sink took a prefix of
-- what is written for what is closed within it or, if the source had ended, of what is written for the text as a
-- whole. Which of the sink's calls failed isn't told.
pub record HasWrittenPrefix (task : Task) (most : ℕ) (Gave : List ℕ → Type 0) (Ended : Type 0) (TookPrefix : List ℕ →
    Type 0) : Type 0 where
  pub text : List ℕ
  pub gave : Gave text
  pub within : length text ≤ most
  pub began : HasBegunOutSoFar task text TookPrefix ⊎ (HasEnded task Ended × HasBegunOut task text TookPrefix)

-- The most bytes that may have been asked for, counted from the first: `most`, and once
-- all of these have come, one more.
abbrev pub most_asked : ℕ → ℕ → ℕ
most_asked most given = if nat_lt given most then most else most + 1

-- The program takes at most this many bytes of input, 1 GiB.
abbrev pub most_input : ℕ
most_input = 2 ^ 30

-- The known bytes of a sink were `old` and are now `new`. Either there was no flush, not even a failed one; or there
-- was one, after all was answered and the sink had taken all that is written for it.
abbrev pub IsFlushedAtEnd : Task → ℕ → (List ℕ → Type 0) → Type 0 → (List ℕ → Type 0) → Option (List ℕ) →
    Option (List ℕ) → Type 0
IsFlushedAtEnd task most Gave Ended Flushed old new =
    Flushed [] ⊎ ((tally : Tally) × IsAnswered task most Gave Ended (Appends old new) tally
    × IsFlushedOnce Flushed old new)

-- A run of a task, of at most `most` bytes of input, came to this outcome. Of the source: what it gave, whether it
-- ended, how far it was asked, and its count of failures before and after. Of the sink: its known bytes before and
-- after, its flushes, its mark of pending bytes after, and its count of failures before and after.
pub record IsRun (task : Task) (most : ℕ) (outcome : Result Tally RunFault)
    (Gave : List ℕ → Type 0) (Ended : Type 0) (Asked : ℕ → Type 0) (reads_failed reads_failed_now : ℕ)
    (old new : Option (List ℕ)) (Flushed : List ℕ → Type 0) (is_pending : Bool)
    (writes_failed writes_failed_now : ℕ) : Type 0 where
  -- Ok: all is answered and flushed, once and last, and no device failed.
  pub answered : IfOk outcome (λ tally. IsAnswered task most Gave Ended (Appends old new) tally)
  pub flushed : OnOk outcome (is_pending ≡ false)
  pub flushed_last : OnOk outcome (IsFlushedOnce Flushed old new)
  pub well : OnOk outcome ((reads_failed_now ≡ reads_failed) × (writes_failed_now ≡ writes_failed))
  -- A read failed: what is due so far is written, the source alone failed, and there was no flush.
  pub read : IsErrOf outcome fault.Read → HasWrittenOutSoFar task most Gave (Appends old new)
  pub read_failed : IsErrOf outcome fault.Read →
      HasRisen reads_failed reads_failed_now × (writes_failed_now ≡ writes_failed)
  pub read_unflushed : IsErrOf outcome fault.Read → Flushed []
  -- The input was too much: what is due for `most` bytes of it is written, no device failed, and there was no flush.
  pub too_much : IsErrOf outcome fault.TooMuchInput → IsTooMuch task most Gave (Appends old new)
  pub too_much_well : IsErrOf outcome fault.TooMuchInput →
      (reads_failed_now ≡ reads_failed) × (writes_failed_now ≡ writes_failed)
  pub too_much_unflushed : IsErrOf outcome fault.TooMuchInput → Flushed []
  -- A write or a flush failed: a prefix of what is due is written, the sink alone failed, and only a flush after all
  -- was answered was tried.
  pub write : IsErrOf outcome fault.Write → HasWrittenPrefix task most Gave Ended (AppendsPrefix old new)
  pub write_failed : IsErrOf outcome fault.Write →
      HasRisen writes_failed writes_failed_now × (reads_failed_now ≡ reads_failed)
  pub write_flushed : IsErrOf outcome fault.Write → IsFlushedAtEnd task most Gave Ended Flushed old new
  -- In each case no byte was asked for beyond those that may be.
  pub asked : (text : List ℕ) × Gave text × Asked (most_asked most (length text))
