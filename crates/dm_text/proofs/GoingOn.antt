-- A text that is answered as it comes goes on, whatever comes.
use Rattle.std.proofs.Common.{◌≡◌, ◌∙◌, ℕ, List, [], ◌∷◌, ◌++◌, refl, sym, ap, subst, append_assoc, map}
use Rattle.std.specs.List.{AllByRecursion}
use Rattle.dm_text.specs.declared.task.Task.{Task}
use Rattle.dm_text.specs.declared.answering.Answering.{Answering}
use Rattle.dm_text.specs.declared.answering.Answering.TheVariants.{Records, Lines}
use Rattle.dm_text.specs.Texts.{HasNoLf, IsSplit, ended_lines}
use Rattle.dm_text.specs.Records.{record_of}
use Rattle.dm_text.specs.RecordFacts.{RecordFacts, facts_of_record}
use Rattle.dm_text.specs.RecordFeeds.{AreRecordsOfText}
use Rattle.dm_text.specs.Answers.{Answer, IsRecordAnswer}
use Rattle.dm_text.specs.Runs.{AreAnswersTo, AreClosedAnswers, AreClosedLines, AreMatched, IsAnswerToLine}
use Rattle.dm_text.specs.Runs.{IsAnswerToRecord}
use Rattle.dm_text.specs.inner.AnsweredSoFar.{IsAnsweredSoFar}
use Rattle.dm_text.proofs.EachAnswer.{line_is_answered, record_is_answered}
use Rattle.dm_text.proofs.EachSplit.{last_blank_is_there, records_are_there, text_is_split}
use Rattle.dm_text.proofs.EachText.{matched_there}
use Rattle.dm_text.proofs.RecordCuts.{split_lines}
use Rattle.dm_text.proofs.RecordTexts.{all_back, all_prefix, full_of, records_after}
use Rattle.dm_text.proofs.AnsweredSoFar.{answers_records, matched_append, matched_lines, so_far_closed}

-- The text has records, and facts of what stands open after them.
record HasRecords (text : List ℕ) : Type 0 where
  pub records : List (List (List ℕ))
  pub new : RecordFacts
  pub are : AreRecordsOfText text (map record_of records) new

-- Each text has its records.
has_records : (text : List ℕ) → HasRecords text
has_records text =
    let t = text_is_split text in
    let b = last_blank_is_there t.lines in
    let free = subst (AllByRecursion HasNoLf) b.is.whole t.split.lines_no_lf in
    let r = records_are_there b.before (all_prefix HasNoLf b.before b.after free) in
    record {
      records = r.0;
      new = facts_of_record b.after t.rest;
      are = record {
        lines = t.lines;
        rest = t.rest;
        split = t.split;
        before = b.before;
        after = b.after;
        last_blank = b.is;
        records = r.0;
        are_records = r.1;
        meanings_are = refl;
        left = record {
          lines = b.after;
          rest = t.rest;
          open_record =
              record {
                blank = [];
                are_lfs = tt;
                whole = refl;
                full =
                    full_of b.after b.is.full (all_back HasNoLf b.before b.after free);
                rest_no_lf = t.split.rest_no_lf;
              };
          facts_are = refl;
        };
      };
    }

-- Answers that match records match their grids or faults.
matched_grids : (task : Task) (records : List (List (List ℕ))) (answers : List Answer) →
    AreMatched (IsAnswerToRecord task) records answers
    → AreMatched (IsRecordAnswer task) (map record_of records) answers
matched_grids task [] [] h = tt
matched_grids task [] (y ∷ answers) h = absurd h
matched_grids task (x ∷ records) [] h = absurd h
matched_grids task (x ∷ records) (y ∷ answers) h = (h.0, matched_grids task records answers h.1)

-- Whatever comes after a text, the answers so far are the first of those to what is then closed.
pub goes_on : (task : Task) (state : Answering) (text piece : List ℕ) (answers : List Answer) →
    IsAnsweredSoFar task state text answers
    → (more : List Answer) × AreClosedAnswers task (text ++ piece) (answers ++ more)
goes_on task (Records asked facts) text piece answers s =
    let t = s.2 in
    let later = has_records ((ended_lines t.after ++ t.rest) ++ piece) in
    let matched =
    matched_there (IsAnswerToRecord task) (record_is_answered task (answers_records asked task s.0))
    later.records in
    let all = records_after text piece s.1 (map record_of later.records) facts later.new t later.are in (
      matched.0,
      so_far_closed task (Records asked later.new) (text ++ piece) (answers ++ matched.0) (
        s.0,
        s.1 ++ map record_of later.records,
        all,
        matched_append (IsRecordAnswer task) s.1 (map record_of later.records) answers matched.0 s.3
            (matched_grids task later.records matched.0 matched.1),
      ),
    )
goes_on task (Lines profile facts) text piece answers s =
    let t = s.2 in
    let later = text_is_split (t.rest ++ piece) in
    let matched = matched_there (IsAnswerToLine profile) (line_is_answered profile) later.lines in
    let lines = t.lines ++ later.lines in
    let text_is : ended_lines t.lines ++ (t.rest ++ piece) ≡ text ++ piece =
    sym (append_assoc (ended_lines t.lines) t.rest piece) ∙ ap (λ l. l ++ piece) (sym t.split.whole) in (
      matched.0,
      record {
        lines = lines;
        rest = later.rest;
        split =
            subst (λ l. IsSplit l lines later.rest) text_is
            (split_lines t.lines later.lines (t.rest ++ piece) later.rest t.split.lines_no_lf later.split);
        closed = lines;
        are_closed = subst (λ w. AreClosedLines w lines lines) (sym s.0) refl;
        answered = subst (λ w. AreAnswersTo w lines (answers ++ matched.0)) (sym s.0)
            (matched_append (IsAnswerToLine profile) t.lines later.lines answers matched.0
            (matched_lines profile t.lines s.1 answers t.each s.3) matched.1);
      },
    )
