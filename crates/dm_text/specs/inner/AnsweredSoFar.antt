-- What stands between the pieces of a text that is answered as it comes.
use Rattle.std.specs.Prelude.{◌≡◌, ℕ, List, ◌++◌}
use Rattle.dm_text.specs.declared.task.Task.{Task}
use Rattle.dm_text.specs.declared.task.Task.TheVariants.{Read, Check, Normal, Write}
use Rattle.dm_text.specs.declared.task.RecordTask.{RecordTask}
use Rattle.dm_text.specs.declared.task.RecordTask.TheVariants as record_task
use Rattle.dm_text.specs.declared.task.Tally.{Tally}
use Rattle.dm_text.specs.declared.answering.Answering.{Answering}
use Rattle.dm_text.specs.declared.answering.Answering.TheVariants.{Records, Lines}
use Rattle.dm_text.specs.RecordFeeds.{RecordMeaning, AreRecordsOfText}
use Rattle.dm_text.specs.LineFeeds.{LineMeaning, AreOfText}
use Rattle.dm_text.specs.Answers.{Answer, IsRecordAnswer, IsWriteAnswer}
use Rattle.dm_text.specs.Runs.{AreAllAnswers, AreClosedAnswers, AreMatched, tally_of, answers_text}

-- A task that asks about records is a task.
abbrev pub as_task : RecordTask → Task
as_task (record_task.Read border) = Read border
as_task (record_task.Check border) = Check border
as_task (record_task.Normal border profile) = Normal border profile

-- After a text, these are the answers to what is closed within it, and the state holds what stands open.
abbrev pub IsAnsweredSoFar : Task → Answering → List ℕ → List Answer → Type 0
IsAnsweredSoFar task (Records asked facts) text answers =
    (as_task asked ≡ task) × (records : List RecordMeaning) × AreRecordsOfText text records facts
    × AreMatched (IsRecordAnswer task) records answers
IsAnsweredSoFar task (Lines profile facts) text answers =
    (task ≡ Write profile) × (lines : List LineMeaning) × AreOfText text lines facts
    × AreMatched (IsWriteAnswer profile) lines answers

-- The state is that after some text.
abbrev pub HasTakenText : Answering → Type 0
HasTakenText state = (task : Task) × (text : List ℕ) × (answers : List Answer) × IsAnsweredSoFar task state text answers

-- A further piece of the text closes records or lines that have these answers.
abbrev pub Advances : Answering → List ℕ → List Answer → Answering → Type 0
Advances old piece more new = (task : Task) (text : List ℕ) (answers : List Answer) →
    IsAnsweredSoFar task old text answers → IsAnsweredSoFar task new (text ++ piece) (answers ++ more)

-- The end of the text closes a record or line that has these answers.
abbrev pub EndsAnswered : Answering → List Answer → Type 0
EndsAnswered old last = (task : Task) (text : List ℕ) (answers : List Answer) → IsAnsweredSoFar task old text answers →
    AreAllAnswers task text (answers ++ last)

-- Whatever text has come, the sink took a prefix of what is written
-- for the records or lines that a further piece closes.
abbrev pub HasBegunAnswers : Answering → List ℕ → (List ℕ → Type 0) → Type 0
HasBegunAnswers old piece TookPrefix = (task : Task) (text : List ℕ) (answers : List Answer) →
    IsAnsweredSoFar task old text answers
    → (more : List Answer) × AreClosedAnswers task (text ++ piece) (answers ++ more) × TookPrefix (answers_text more)

-- The tally counts further answers.
abbrev pub AreCounted : Tally → Tally → List Answer → Type 0
AreCounted before after more = (answers : List Answer) → before ≡ tally_of answers → after ≡ tally_of (answers ++ more)

-- The sink took what is written for the record or line that the end of the text closes, if it closes one, and the tally
-- counts it.
abbrev pub IsLastAnswered : Answering → (List ℕ → Type 0) → Tally → Tally → Type 0
IsLastAnswered old Took before after =
    (last : List Answer) × EndsAnswered old last × Took (answers_text last) × AreCounted before after last

-- The sink took a prefix of what is written for the record or line that the end of the text closes, if it closes one.
abbrev pub HasBegunLast : Answering → (List ℕ → Type 0) → Type 0
HasBegunLast old TookPrefix = (last : List Answer) × EndsAnswered old last × TookPrefix (answers_text last)
