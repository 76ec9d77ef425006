-- A text that is answered as it comes: what is known after each of its pieces, and at its end.
use Rattle.std.proofs.Common.{◌≡◌, ◌≢◌, ◌∙◌, ◌≤◌, ◌+◌, ℕ, zero, suc, List, [], ◌∷◌, ◌++◌, refl, sym, ap, subst}
use Rattle.std.proofs.Common.{append-nil, append_assoc, map, length, length-take-le, drop, take, arith, Option, Some}
use Rattle.std.proofs.Common.{None, IfNone, Result, Ok, Err, OnOk, OnErr}
use Rattle.std.specs.Io.KnownBytes.{Appends, Keeps}
use Rattle.dm_text.specs.Devices.{AppendsPrefix}
use Rattle.dm_text.specs.inner.Gathering.{IsPassedOn}
use Rattle.dm_text.proofs.KnownBytes.{appends_kept, passed_and_put}
use Rattle.dm_symbol.specs.declared.Profile.{Profile}
use Rattle.dm_text.specs.declared.task.Task.{Task}
use Rattle.dm_text.specs.declared.task.Task.TheVariants.{Read, Check, Normal, Write, Table}
use Rattle.dm_text.specs.declared.task.RecordTask.{RecordTask}
use Rattle.dm_text.specs.declared.task.RecordTask.TheVariants as record_task
use Rattle.dm_text.specs.declared.answering.Answering.{Answering}
use Rattle.dm_text.specs.declared.answering.Answering.TheVariants.{Records, Lines}
use Rattle.dm_text.specs.Texts.{last_line}
use Rattle.dm_text.specs.Records.{AreLfs, record_of}
use Rattle.dm_text.specs.RecordFacts.{RecordFacts, AreRecordFacts}
use Rattle.dm_text.specs.RecordFeeds.{RecordMeaning, ClosesRecord, ClosedRecordMeans, IsLastBlank, LastRecordMeans}
use Rattle.dm_text.specs.RecordFeeds.{LeavesRecordOpen}
use Rattle.dm_text.specs.LineFacts.{LineFacts, AreLineFacts}
use Rattle.dm_text.specs.LineFeeds.{LineMeaning, AreMeanings, ClosesLine, LeavesLineOpen}
use Rattle.dm_text.specs.MessageLines.{IsLine}
use Rattle.dm_text.specs.Answers.{Answer, IsRecordAnswer, IsWriteAnswer}
use Rattle.dm_text.specs.Runs.{AreAllAnswers, AreAnswersTo, AreAnswersToRecords, AreClosedAnswers, AreClosedLines}
use Rattle.dm_text.specs.Runs.{AreMatched, IsAnswerToLine, IsAnswerToRecord, IsOutSoFar, IsOut, HasEnded, tally_of}
use Rattle.dm_text.specs.Runs.{answers_text}
use Rattle.dm_text.specs.declared.task.Tally.{Tally}
use Rattle.dm_text.specs.inner.AnsweredSoFar.{EndsAnswered, Advances, IsAnsweredSoFar, HasTakenText, as_task}
use Rattle.dm_text.proofs.RecordTexts.{all_closed, last_closed, record_is_closed, records_stay_open}
use Rattle.dm_text.proofs.LineTexts.{line_is_closed, lines_stay_open}

-- ---- lists that are matched

-- Matched lists stay matched when other matched lists are appended to them.
pub matched_append : {A B : Type 0} (R : A → B → Type 0) (xs more : List A) (ys others : List B) → AreMatched R xs ys →
    AreMatched R more others
    → AreMatched R (xs ++ more) (ys ++ others)
matched_append R [] more [] others p q = q
matched_append R [] more (y ∷ ys) others p q = absurd p
matched_append R (x ∷ xs) more [] others p q = absurd p
matched_append R (x ∷ xs) more (y ∷ ys) others p q = (p.0, matched_append R xs more ys others p.1 q)

-- Answers that match the grids or faults of records match the records.
matched_records : (task : Task) (records : List (List (List ℕ))) (answers : List Answer) →
    AreMatched (IsRecordAnswer task) (map record_of records) answers
    → AreMatched (IsAnswerToRecord task) records answers
matched_records task [] [] h = tt
matched_records task [] (y ∷ answers) h = absurd h
matched_records task (x ∷ records) [] h = absurd h
matched_records task (x ∷ records) (y ∷ answers) h = (h.0, matched_records task records answers h.1)

-- Answers that match the messages or faults of lines match the lines.
pub matched_lines : (profile : Profile) (lines : List (List ℕ)) (messages : List LineMeaning) (answers : List Answer) →
    AreMeanings lines messages
    → AreMatched (IsWriteAnswer profile) messages answers → AreMatched (IsAnswerToLine profile) lines answers
matched_lines profile [] [] [] p q = tt
matched_lines profile [] [] (y ∷ answers) p q = absurd q
matched_lines profile [] (x ∷ messages) answers p q = absurd p
matched_lines profile (l ∷ lines) [] answers p q = absurd p
matched_lines profile (l ∷ lines) (x ∷ messages) [] p q = absurd q
matched_lines profile (l ∷ lines) (x ∷ messages) (y ∷ answers) p q =
    ((x, p.0, q.0), matched_lines profile lines messages answers p.1 q.1)

-- ---- tasks of grids

-- The tasks that read, check or normalise answer records; the other two don't.
abbrev pub AnswersRecords : Task → Type 0
AnswersRecords (Read border) = Unit {0}
AnswersRecords (Check border) = Unit {0}
AnswersRecords (Normal border profile) = Unit {0}
AnswersRecords (Write profile) = ⊥
AnswersRecords Table = ⊥

-- A task that asks about records answers records.
pub answers_records : (asked : RecordTask) (task : Task) → as_task asked ≡ task → AnswersRecords task
answers_records (record_task.Read border) task is = subst AnswersRecords is tt
answers_records (record_task.Check border) task is = subst AnswersRecords is tt
answers_records (record_task.Normal border profile) task is = subst AnswersRecords is tt

-- Where a task answers records, the answers to the records in some lines are the task's answers to these lines.
pub answers_of_grids : (task : Task) (lines : List (List ℕ)) (answers : List Answer) → AnswersRecords task →
    AreAnswersToRecords task lines answers → AreAnswersTo task lines answers
answers_of_grids (Read border) lines answers g h = h
answers_of_grids (Check border) lines answers g h = h
answers_of_grids (Normal border profile) lines answers g h = h
answers_of_grids (Write profile) lines answers g h = absurd g
answers_of_grids Table lines answers g h = absurd g

-- Where a task answers records, its closed lines are those up to the last empty one.
pub closed_of_grids : (task : Task) (lines closed : List (List ℕ)) → AnswersRecords task →
    (after : List (List ℕ)) × IsLastBlank lines closed after → AreClosedLines task lines closed
closed_of_grids (Read border) lines closed g h = h
closed_of_grids (Check border) lines closed g h = h
closed_of_grids (Normal border profile) lines closed g h = h
closed_of_grids (Write profile) lines closed g h = absurd g
closed_of_grids Table lines closed g h = absurd g

-- ---- more of the text

-- Two pieces, one after the other, close what has the answers of both.
pub advances_then : (a b c : Answering) (x y : List ℕ) (m n : List Answer) → Advances a x m b → Advances b y n c →
    Advances a (x ++ y) (m ++ n) c
advances_then a b c x y m n p q task text answers s =
    subst (λ l. IsAnsweredSoFar task c l (answers ++ (m ++ n))) (append_assoc text x y)
    (subst (IsAnsweredSoFar task c ((text ++ x) ++ y)) (append_assoc answers m n)
    (q task (text ++ x) (answers ++ m) (p task text answers s)))

-- The empty piece closes nothing.
pub advances_nowhere : (a : Answering) → Advances a [] [] a
advances_nowhere a task text answers s =
    subst (λ l. IsAnsweredSoFar task a l (answers ++ [])) (sym (append-nil text))
    (subst (IsAnsweredSoFar task a text) (sym (append-nil answers)) s)

-- A state after some text is again one after some text when a further piece has come.
pub advances_from_text : (a b : Answering) (x : List ℕ) (m : List Answer) → HasTakenText a → Advances a x m b →
    HasTakenText b
advances_from_text a b x m s p = (s.0, s.1 ++ x, s.2 ++ m, p s.0 s.1 s.2 s.3)

-- Nothing is left of the prefix of a piece once that prefix is taken.
none_after : (taken : ℕ) (piece : List ℕ) → drop taken (take taken piece) ≡ []
none_after zero piece = refl
none_after (suc n) [] = refl
none_after (suc n) (b ∷ piece) = none_after n piece

-- Taking the prefix of a piece twice takes it once.
take_twice : (taken : ℕ) (piece : List ℕ) → take taken (take taken piece) ≡ take taken piece
take_twice zero piece = refl
take_twice (suc n) [] = refl
take_twice (suc n) (b ∷ piece) = ap (λ l. b ∷ l) (take_twice n piece)

-- What is taken of a piece lies within the prefix that is taken.
taken_within : (taken : ℕ) (piece : List ℕ) → taken ≤ length piece → taken ≤ length (take taken piece)
taken_within taken piece h = subst (λ n. taken ≤ n) (sym (length-take-le taken piece h)) (omega arith)

-- A piece that leaves a record open advances the text without an answer.
pub record_open : (asked : RecordTask) (old new : RecordFacts) (piece : List ℕ) (taken : ℕ) →
    LeavesRecordOpen old piece taken new
    → Advances (Records asked old) piece [] (Records asked new)
record_open asked old new piece taken now task text answers s = (
  s.0,
  s.1 ++ [],
  records_stay_open text s.1 old new piece taken s.2 now,
  matched_append (IsRecordAnswer task) s.1 [] answers [] s.3 tt,
)

-- A prefix of a piece that closes a record advances the text with the record's answer.
pub record_closed : (asked : RecordTask) (old new : RecordFacts) (piece : List ℕ) (taken : ℕ) (grid : RecordMeaning)
    (answer : Answer) → ClosesRecord old piece taken grid new
    → IsRecordAnswer (as_task asked) grid answer →
    Advances (Records asked old) (take taken piece) (answer ∷ []) (Records asked new)
record_closed asked old new piece taken grid answer now is task text answers s =
    let prefix : ClosesRecord old (take taken piece) taken grid new = record {
      some = now.some;
      within = taken_within taken piece now.within;
      means =
          λ u known. subst (λ l. ClosedRecordMeans (u ++ l) grid) (sym (take_twice taken piece)) (now.means u known);
      empty = now.empty;
    } in (
      s.0,
      s.1 ++ grid ∷ [],
      record_is_closed text s.1 old new (take taken piece) taken grid s.2 prefix (none_after taken piece),
      matched_append (IsRecordAnswer task) s.1 (grid ∷ []) answers (answer ∷ []) s.3
          (subst (λ t. IsRecordAnswer t grid answer) s.0 is, tt),
    )

-- A piece that leaves a line open advances the text without an answer.
pub line_open : (profile : Profile) (old new : LineFacts) (piece : List ℕ) (taken : ℕ) →
    LeavesLineOpen old piece taken new → Advances (Lines profile old) piece [] (Lines profile new)
line_open profile old new piece taken now task text answers s = (
  s.0,
  s.1 ++ [],
  lines_stay_open text s.1 old new piece taken s.2 now,
  matched_append (IsWriteAnswer profile) s.1 [] answers [] s.3 tt,
)

-- The prefix that is taken of a piece which closes a line ends with the LF.
closing : (piece before after : List ℕ) (taken : ℕ) → piece ≡ before ++ 10 ∷ after → taken ≡ length before + 1 →
    take taken piece ≡ before ++ 10 ∷ []
closing piece [] after taken e n = ap (λ k. take k piece) n ∙ ap (take 1) e
closing piece (b ∷ before) after taken e n =
    let more : taken ≡ suc (length before + 1) = omega (arith, n) in
    ap (λ k. take k piece) more ∙ ap (take (suc (length before + 1))) e
    ∙ ap (λ l. b ∷ l) (closing (before ++ 10 ∷ after) before after (length before + 1) refl refl)

-- A prefix of a piece that closes a line advances the text with the line's answer.
pub line_closed : (profile : Profile) (old new : LineFacts) (piece : List ℕ) (taken : ℕ) (message : LineMeaning)
    (answer : Answer) → ClosesLine old piece taken message new
    → IsWriteAnswer profile message answer → Advances (Lines profile old) (take taken piece) (answer ∷ [])
    (Lines profile new)
line_closed profile old new piece taken message answer now is task text answers s =
    let prefix : ClosesLine old (take taken piece) taken message new = record {
      before = now.before;
      after = [];
      piece_is = closing piece now.before now.after taken now.piece_is now.taken_is;
      no_lf = now.no_lf;
      taken_is = now.taken_is;
      means = now.means;
      empty = now.empty;
    } in (
      s.0,
      s.1 ++ message ∷ [],
      line_is_closed text s.1 old new (take taken piece) taken message s.2 prefix (none_after taken piece),
      matched_append (IsWriteAnswer profile) s.1 (message ∷ []) answers (answer ∷ []) s.3 (is, tt),
    )

-- ---- the end

-- Where no record stands open, the end of a text closes nothing.
pub records_end : (asked : RecordTask) (facts : RecordFacts) → ((u : List ℕ) → AreRecordFacts u facts → AreLfs u) →
    EndsAnswered (Records asked facts) []
records_end asked facts none task text answers s =
    let t = s.2 in
    record {
      lines = t.lines;
      rest = t.rest;
      split = t.split;
      answered = subst (λ a. AreAnswersTo task (t.lines ++ last_line t.rest) a) (sym (append-nil answers))
          (answers_of_grids task (t.lines ++ last_line t.rest) answers (answers_records asked task s.0) (
            t.records,
            all_closed text s.1 facts t none,
            matched_records task t.records answers
                (subst (λ r. AreMatched (IsRecordAnswer task) r answers) t.meanings_are s.3),
          ));
    }

-- Where a record stands open, the end of a text closes it, with its answer.
pub last_record_ends : (asked : RecordTask) (facts : RecordFacts) (grid : RecordMeaning) (answer : Answer) →
    ((u : List ℕ) → AreRecordFacts u facts → LastRecordMeans u grid)
    → IsRecordAnswer (as_task asked) grid answer → EndsAnswered (Records asked facts) (answer ∷ [])
last_record_ends asked facts grid answer last is task text answers s =
    let t = s.2 in
    let these = t.after ++ last_line t.rest in
    let closed = last_closed text s.1 facts grid t last in
    let now : IsAnswerToRecord task these answer =
    subst (λ g. IsRecordAnswer task g answer) closed.1 (subst (λ a. IsRecordAnswer a grid answer) s.0 is) in
    let before =
    matched_records task t.records answers (subst (λ r. AreMatched (IsRecordAnswer task) r answers) t.meanings_are
    s.3) in
    record {
      lines = t.lines;
      rest = t.rest;
      split = t.split;
      answered =
          answers_of_grids task (t.lines ++ last_line t.rest) (answers ++ answer ∷ [])
          (answers_records asked task s.0) (
            t.records ++ these ∷ [],
            closed.0,
            matched_append (IsAnswerToRecord task) t.records (these ∷ []) answers (answer ∷ []) before (now, tt),
          );
    }

-- Where no line stands open, the end of a text closes nothing.
pub lines_end : (profile : Profile) (facts : LineFacts) → ((line : List ℕ) → AreLineFacts line facts → line ≡ []) →
    EndsAnswered (Lines profile facts) []
lines_end profile facts none task text answers s =
    let t = s.2 in
    let rest = none t.rest t.left in
    record {
      lines = t.lines;
      rest = t.rest;
      split = t.split;
      answered = subst (λ w. AreAnswersTo w (t.lines ++ last_line t.rest) (answers ++ [])) (sym s.0)
          (subst (λ r. AreMatched (IsAnswerToLine profile) (t.lines ++ last_line r) (answers ++ [])) (sym rest)
          (matched_append (IsAnswerToLine profile) t.lines [] answers []
          (matched_lines profile t.lines s.1 answers t.each s.3) tt));
    }

-- Where there are bytes after the last LF, they are the line that the end closes.
last_line_is : (rest : List ℕ) → rest ≢ [] → last_line rest ≡ rest ∷ []
last_line_is [] n = absurd (n refl)
last_line_is (b ∷ rest) n = refl

-- Where a line stands open, the end of a text closes it, with its answer.
pub last_line_ends : (profile : Profile) (facts : LineFacts) (message : LineMeaning) (answer : Answer) →
    ((line : List ℕ) → AreLineFacts line facts → (line ≢ []) × IsLine line message)
    → IsWriteAnswer profile message answer → EndsAnswered (Lines profile facts) (answer ∷ [])
last_line_ends profile facts message answer last is task text answers s =
    let t = s.2 in
    let here = last t.rest t.left in
    record {
      lines = t.lines;
      rest = t.rest;
      split = t.split;
      answered = subst (λ w. AreAnswersTo w (t.lines ++ last_line t.rest) (answers ++ answer ∷ [])) (sym s.0)
          (subst (λ l. AreMatched (IsAnswerToLine profile) (t.lines ++ l) (answers ++ answer ∷ []))
          (sym (last_line_is t.rest here.0))
          (matched_append (IsAnswerToLine profile) t.lines (t.rest ∷ []) answers (answer ∷ [])
          (matched_lines profile t.lines s.1 answers t.each s.3) ((message, here.1, is), tt)));
    }

-- ---- what is written

-- The answers so far are those to what is closed within the text.
pub so_far_closed : (task : Task) (state : Answering) (text : List ℕ) (answers : List Answer) →
    IsAnsweredSoFar task state text answers → AreClosedAnswers task text answers
so_far_closed task (Records asked facts) text answers s =
    let t = s.2 in
    record {
      lines = t.lines;
      rest = t.rest;
      split = t.split;
      closed = t.before;
      are_closed = closed_of_grids task t.lines t.before (answers_records asked task s.0) (t.after, t.last_blank);
      answered = answers_of_grids task t.before answers (answers_records asked task s.0) (
        t.records,
        t.are_records,
        matched_records task t.records answers
            (subst (λ r. AreMatched (IsRecordAnswer task) r answers) t.meanings_are s.3),
      );
    }
so_far_closed task (Lines profile facts) text answers s =
    let t = s.2 in
    record {
      lines = t.lines;
      rest = t.rest;
      split = t.split;
      closed = t.lines;
      are_closed = subst (λ w. AreClosedLines w t.lines t.lines) (sym s.0) refl;
      answered =
          subst (λ w. AreAnswersTo w t.lines answers) (sym s.0) (matched_lines profile t.lines s.1 answers t.each s.3);
    }

-- A task that answers a text as it comes isn't the table.
pub not_table : (task : Task) (state : Answering) (text : List ℕ) (answers : List Answer) →
    IsAnsweredSoFar task state text answers → task ≢ Table
not_table task (Records asked facts) text answers s e = subst AnswersRecords e (answers_records asked task s.0)
not_table task (Lines profile facts) text answers s e = let n : Write profile ≡ Table = sym s.0 ∙ e in cc

-- Unless the task is the table, what is written for a text that may go on is the answers to what is closed, joined.
pub done_by : (task : Task) (text : List ℕ) (answers : List Answer) → task ≢ Table →
    AreClosedAnswers task text answers → IsOutSoFar task text (answers_text answers)
done_by (Read border) text answers n h = (answers, h, refl)
done_by (Check border) text answers n h = (answers, h, refl)
done_by (Normal border profile) text answers n h = (answers, h, refl)
done_by (Write profile) text answers n h = (answers, h, refl)
done_by Table text answers n h = absurd (n refl)

-- Unless the task is the table, what is written for a text as a whole is the answers to all of it, joined.
pub out_by : (task : Task) (text : List ℕ) (answers : List Answer) → task ≢ Table → AreAllAnswers task text answers →
    IsOut task text (answers_text answers) (tally_of answers)
out_by (Read border) text answers n h = (answers, h, refl, refl)
out_by (Check border) text answers n h = (answers, h, refl, refl)
out_by (Normal border profile) text answers n h = (answers, h, refl, refl)
out_by (Write profile) text answers n h = (answers, h, refl, refl)
out_by Table text answers n h = absurd (n refl)

-- The answers so far, joined, are what is written for a text that may go on.
pub so_far_written : (task : Task) (state : Answering) (text : List ℕ) (answers : List Answer) →
    IsAnsweredSoFar task state text answers → IsOutSoFar task text (answers_text answers)
so_far_written task state text answers s =
    done_by task text answers (not_table task state text answers s) (so_far_closed task state text answers s)

-- The answers so far and the last ones, joined, are what is written for the text as a whole.
pub ends_out : (task : Task) (state : Answering) (text : List ℕ) (answers last : List Answer) →
    IsAnsweredSoFar task state text answers → EndsAnswered state last
    → IsOut task text (answers_text (answers ++ last)) (tally_of (answers ++ last))
ends_out task state text answers last s h =
    out_by task text (answers ++ last) (not_table task state text answers s) (h task text answers s)

-- The source of a task that answers a text as it comes has ended once it says so.
pub so_far_ended : (task : Task) (state : Answering) (text : List ℕ) (answers : List Answer) (Ended : Type 0) →
    IsAnsweredSoFar task state text answers → Ended
    → HasEnded task Ended
so_far_ended (Read border) state text answers Ended s h = h
so_far_ended (Check border) state text answers Ended s h = h
so_far_ended (Normal border profile) state text answers Ended s h = h
so_far_ended (Write profile) state text answers Ended s h = h
so_far_ended Table state text answers Ended s h = tt

-- ---- what the sink takes

-- What is written for one answer is its text.
pub written_one : (answer : Answer) → answers_text (answer ∷ []) ≡ answer.text
written_one answer = append-nil answer.text

-- Where the writing of one answer that is counted is Ok, the answer is written.
pub one_more : {X E : Type 0} (Advances : List Answer → Type 0) (result : Result X E) (answer : Answer)
    (a b : Option (List ℕ)) (s t : Tally) → Advances (answer ∷ [])
    → OnOk result (Appends a b answer.text) → ((answers : List Answer) → s ≡ tally_of answers →
    t ≡ tally_of (answers ++ answer ∷ []))
    → OnOk result ((more : List Answer) × Advances more × Appends a b (answers_text more)
    × ((answers : List Answer) → s ≡ tally_of answers → t ≡ tally_of (answers ++ more)))
one_more Advances (Ok x) answer a b s t goes took counted =
    (answer ∷ [], goes, subst (Appends a b) (sym (written_one answer)) took, counted)
one_more Advances (Err e) answer a b s t goes took counted = tt

-- Where the writing of one answer fails, a prefix of it is written.
pub one_begun : {X E : Type 0} (Advances : List Answer → Type 0) (result : Result X E) (answer : Answer)
    (a b : Option (List ℕ)) → Advances (answer ∷ [])
    → OnErr result (AppendsPrefix a b answer.text) →
    OnErr result ((more : List Answer) × Advances more × AppendsPrefix a b (answers_text more))
one_begun Advances (Ok x) answer a b goes took = tt
one_begun Advances (Err e) answer a b goes took =
    (answer ∷ [], goes, subst (AppendsPrefix a b) (sym (written_one answer)) took)

-- What holds in any case holds where the result is Ok.
pub on_ok : {X E : Type 0} (result : Result X E) (P : Type 0) → P → OnOk result P
on_ok (Ok x) P p = p
on_ok (Err e) P p = tt

-- What holds in any case holds where nothing is there.
pub on_none : {X : Type 0} (found : Option X) (P : Type 0) → P → IfNone found P
on_none None P p = p
on_none (Some x) P p = tt

-- What follows from what holds where the result is an error holds there too.
pub on_err : {X E : Type 0} (result : Result X E) (P Q : Type 0) → OnErr result P → (P → Q) → OnErr result Q
on_err (Ok x) P Q p f = tt
on_err (Err e) P Q p f = f p

-- Answers that were gathered are all written once what is left of them is put.
pub gathered_put : {X E : Type 0} (Advances Counted : List Answer → Type 0) (result : Result X E)
    (a b c : Option (List ℕ)) (more : List Answer) (left : List ℕ) → Advances more
    → Counted more → IsPassedOn a [] (answers_text more) b left → OnOk result (Appends b c left)
    → OnOk result ((more : List Answer) × Advances more × Appends a c (answers_text more) × Counted more)
gathered_put Advances Counted (Ok x) a b c more left goes counted passed took =
    (more, goes, passed_and_put a b c (answers_text more) left passed took, counted)
gathered_put Advances Counted (Err e) a b c more left goes counted passed took = tt

-- A flush after the last answer changes no byte that was written.
pub all_flushed : {X E : Type 0} {Advances : List Answer → Type 0} {Counted : List Answer →
    Type 0} (result : Result X E) (a b c : Option (List ℕ))
    → (last : List Answer) × Advances last × Appends a b (answers_text last) × Counted last → Keeps b c
    → OnOk result ((last : List Answer) × Advances last × Appends a c (answers_text last) × Counted last)
all_flushed (Ok x) a b c all same = (all.0, all.1, appends_kept a b c (answers_text all.0) all.2 same, all.3)
all_flushed (Err e) a b c all same = tt

-- Where the flush after the last answer fails, what is written is still a prefix of the answers.
pub not_flushed : {X E : Type 0} {Advances : List Answer → Type 0} {Counted : List Answer →
    Type 0} (result : Result X E) (a b c : Option (List ℕ))
    → (last : List Answer) × Advances last × Appends a b (answers_text last) × Counted last → Keeps b c
    → OnErr result ((last : List Answer) × Advances last × AppendsPrefix a c (answers_text last))
not_flushed (Ok x) a b c all same = tt
not_flushed (Err e) a b c all same = (
  all.0,
  all.1,
  (
    answers_text all.0,
    [],
    sym (append-nil (answers_text all.0)),
    appends_kept a b c (answers_text all.0) all.2 same,
  ),
)
