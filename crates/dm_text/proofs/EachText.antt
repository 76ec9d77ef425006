-- Something is written for each text.
use Rattle.std.proofs.Common.{◌≡◌, ◌≢◌, ◌⊎◌, ℕ, List, [], ◌∷◌, ◌++◌, inl, inr, refl, sym, subst}
use Rattle.std.specs.List.{AllByRecursion}
use Rattle.dm_text.specs.declared.task.Task.{Task}
use Rattle.dm_text.specs.declared.task.Task.TheVariants.{Read, Check, Normal, Write, Table}
use Rattle.dm_text.specs.declared.task.Tally.{Tally}
use Rattle.dm_text.specs.Texts.{HasNoLf, last_line}
use Rattle.dm_text.specs.Answers.{Answer, table_text}
use Rattle.dm_text.specs.Runs.{AreAllAnswers, AreAnswersTo, AreClosedAnswers, AreClosedLines, AreMatched}
use Rattle.dm_text.specs.Runs.{IsAnswerToLine, IsAnswerToRecord, IsOutSoFar, IsOut, tally_of, answers_text}
use Rattle.dm_text.proofs.AnsweredSoFar.{AnswersRecords, answers_of_grids, closed_of_grids, done_by, out_by}
use Rattle.dm_text.proofs.RecordTexts.{all_prefix}
use Rattle.dm_text.proofs.EachSplit.{last_blank_is_there, records_are_there, text_is_split}
use Rattle.dm_text.proofs.EachAnswer.{line_is_answered, record_is_answered}

-- Where each thing has a match, each list has a matching one.
pub matched_there : {A B : Type 0} (R : A → B → Type 0) → ((x : A) → (y : B) × R x y) → (xs : List A) →
    (ys : List B) × AreMatched R xs ys
matched_there R each [] = ([], tt)
matched_there R each (x ∷ xs) =
    let one = each x in
    let rest = matched_there R each xs in
    (one.0 ∷ rest.0, (one.1, rest.1))

-- The records in some lines have their answers.
answers_to_records : (task : Task) → AnswersRecords task → (lines : List (List ℕ)) → AllByRecursion HasNoLf lines →
    (answers : List Answer) × AreAnswersTo task lines answers
answers_to_records task of_grids lines free =
    let records = records_are_there lines free in
    let matched = matched_there (IsAnswerToRecord task) (record_is_answered task of_grids) records.0 in
    (matched.0, answers_of_grids task lines matched.0 of_grids (records.0, records.1, matched.1))

-- The records or message lines of some lines have their answers.
answers_to : (task : Task) → task ≢ Table → (lines : List (List ℕ)) → AllByRecursion HasNoLf lines →
    (answers : List Answer) × AreAnswersTo task lines answers
answers_to (Read border) reads lines free = answers_to_records (Read border) tt lines free
answers_to (Check border) reads lines free = answers_to_records (Check border) tt lines free
answers_to (Normal border profile) reads lines free = answers_to_records (Normal border profile) tt lines free
answers_to (Write profile) reads lines free = matched_there (IsAnswerToLine profile) (line_is_answered profile) lines
answers_to Table reads lines free = absurd (reads refl)

-- The lines of a text, and the one that its end closes, have no LF.
with_last : (lines : List (List ℕ)) (rest : List ℕ) → AllByRecursion HasNoLf lines → HasNoLf rest →
    AllByRecursion HasNoLf (lines ++ last_line rest)
with_last [] [] free rest_free = tt
with_last [] (b ∷ rest) free rest_free = (rest_free, tt)
with_last (line ∷ lines) rest free rest_free = (free.0, with_last lines rest free.1 rest_free)

-- Some lines have a prefix in which every record or message line is closed.
record HasClosed (task : Task) (lines : List (List ℕ)) : Type 0 where
  pub closed : List (List ℕ)
  pub are : AreClosedLines task lines closed
  pub free : AllByRecursion HasNoLf closed

-- Where a task answers records, some lines have a prefix in which every record is closed.
closed_records : (task : Task) → AnswersRecords task → (lines : List (List ℕ)) → AllByRecursion HasNoLf lines →
    HasClosed task lines
closed_records task of_grids lines free =
    let last = last_blank_is_there lines in
    record {
      closed = last.before;
      are = closed_of_grids task lines last.before of_grids (last.after, last.is);
      free = all_prefix HasNoLf last.before last.after (subst (AllByRecursion HasNoLf) last.is.whole free);
    }

-- Unless the task is the table, some lines have a prefix in which every record or message line is closed.
closed_there : (task : Task) → task ≢ Table → (lines : List (List ℕ)) → AllByRecursion HasNoLf lines →
    HasClosed task lines
closed_there (Read border) reads lines free = closed_records (Read border) tt lines free
closed_there (Check border) reads lines free = closed_records (Check border) tt lines free
closed_there (Normal border profile) reads lines free = closed_records (Normal border profile) tt lines free
closed_there (Write profile) reads lines free = record { closed = lines; are = refl; free = free }
closed_there Table reads lines free = absurd (reads refl)

-- All records or message lines of a text have their answers.
all_answers : (task : Task) → task ≢ Table → (text : List ℕ) → (answers : List Answer) × AreAllAnswers task text answers
all_answers task reads text =
    let t = text_is_split text in
    let a =
    answers_to task reads (t.lines ++ last_line t.rest)
    (with_last t.lines t.rest t.split.lines_no_lf t.split.rest_no_lf) in
    (a.0, record { lines = t.lines; rest = t.rest; split = t.split; answered = a.1 })

-- The records or message lines that are closed within a text have their answers.
closed_answers : (task : Task) → task ≢ Table → (text : List ℕ) →
    (answers : List Answer) × AreClosedAnswers task text answers
closed_answers task reads text =
    let t = text_is_split text in
    let c = closed_there task reads t.lines t.split.lines_no_lf in
    let a = answers_to task reads c.closed c.free in (
      a.0,
      record {
        lines = t.lines;
        rest = t.rest;
        split = t.split;
        closed = c.closed;
        are_closed = c.are;
        answered =
            a.1;
      },
    )

-- A task is the table, or it reads.
table_or_reads : (task : Task) → (task ≡ Table) ⊎ (task ≢ Table)
table_or_reads (Read border) = inr (λ e. cc)
table_or_reads (Check border) = inr (λ e. cc)
table_or_reads (Normal border profile) = inr (λ e. cc)
table_or_reads (Write profile) = inr (λ e. cc)
table_or_reads Table = inl refl

-- Something is written for each text as a whole.
pub out_is_there : (task : Task) (text : List ℕ) → (task ≡ Table → text ≡ []) →
    (out : List ℕ) × (tally : Tally) × IsOut task text out tally
out_is_there task text empty =
    elim (table_or_reads task) [
      | inl e ↦ (
        table_text,
        tally_of [],
        subst (λ t. IsOut t text table_text (tally_of [])) (sym e)
            (empty e, refl, refl),
      )
      | inr reads ↦ let a =
          all_answers task reads text in (answers_text a.0, tally_of a.0, out_by task text a.0 reads a.1)
    ]

-- Something is written for each text that may go on.
pub done_is_there : (task : Task) (text : List ℕ) → (task ≡ Table → text ≡ []) →
    (done : List ℕ) × IsOutSoFar task text done
done_is_there task text empty =
    elim (table_or_reads task) [
      | inl e ↦ (table_text, subst (λ t. IsOutSoFar t text table_text) (sym e) (empty e, refl))
      | inr reads ↦ let a = closed_answers task reads text in (answers_text a.0, done_by task text a.0 reads a.1)
    ]
