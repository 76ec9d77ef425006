-- Only one thing is written for a text.
use Rattle.std.proofs.Common.{◌≡◌, ◌∙◌, ◌++◌, ℕ, List, [], ◌∷◌, refl, ap, sym, subst}
use Rattle.dm_symbol.specs.declared.Profile.{Profile}
use Rattle.dm_text.specs.declared.task.Task.{Task}
use Rattle.dm_text.specs.declared.task.Task.TheVariants.{Read, Check, Normal, Write, Table}
use Rattle.dm_text.specs.declared.task.Tally.{Tally}
use Rattle.dm_text.specs.Texts.{last_line}
use Rattle.dm_text.specs.Records.{record_of}
use Rattle.dm_text.specs.Answers.{Answer, IsWriteAnswer}
use Rattle.dm_text.specs.Runs.{AreAllAnswers, AreAnswersTo, AreAnswersToRecords, AreClosedAnswers, AreClosedLines}
use Rattle.dm_text.specs.Runs.{AreMatched, IsAnswerToLine, IsAnswerToRecord, IsOutSoFar, IsOut, tally_of, answers_text}
use Rattle.dm_text.proofs.Texts.{split_unique}
use Rattle.dm_text.proofs.RecordCuts.{last_blank_unique, records_unique}
use Rattle.dm_text.proofs.OpenLineSteps.{line_unique}
use Rattle.dm_text.proofs.OneAnswer.{one_line_answer, one_record_answer}

-- A list has only one matching list if each of its members has only one match.
matched_unique : {A B : Type 0} (R : A → B → Type 0) → ((x : A) (y z : B) → R x y → R x z → y ≡ z) →
    (xs : List A) (ys zs : List B) → AreMatched R xs ys
    → AreMatched R xs zs → ys ≡ zs
matched_unique R one [] [] [] p q = refl
matched_unique R one [] [] (z ∷ zs) p q = absurd q
matched_unique R one [] (y ∷ ys) zs p q = absurd p
matched_unique R one (x ∷ xs) [] zs p q = absurd p
matched_unique R one (x ∷ xs) (y ∷ ys) [] p q = absurd q
matched_unique R one (x ∷ xs) (y ∷ ys) (z ∷ zs) p q =
    ap (λ w. w ∷ ys) (one x y z p.0 q.0) ∙ ap (λ l. z ∷ l) (matched_unique R one xs ys zs p.1 q.1)

-- A message line has only one answer.
line_answer_is_one : (profile : Profile) (line : List ℕ) (a b : Answer) → IsAnswerToLine profile line a →
    IsAnswerToLine profile line b → a ≡ b
line_answer_is_one profile line a b p q =
    one_line_answer profile q.0 a b (subst (λ m. IsWriteAnswer profile m a) (line_unique line p.0 q.0 p.1 q.1) p.2) q.2

-- The records in some lines have only one list of answers.
record_answers_are_one : (task : Task) (lines : List (List ℕ)) (a b : List Answer) → AreAnswersToRecords task lines a →
    AreAnswersToRecords task lines b → a ≡ b
record_answers_are_one task lines a b p q =
    let same = records_unique lines lines p.0 q.0 p.1 q.1 refl in
    matched_unique (IsAnswerToRecord task) (λ record_lines x y. one_record_answer task (record_of record_lines) x y) q.0
    a b
    (subst (λ r. AreMatched (IsAnswerToRecord task) r a) same p.2) q.2

-- The records or message lines of some lines have only one list of answers.
answers_are_one : (task : Task) (lines : List (List ℕ)) (a b : List Answer) → AreAnswersTo task lines a →
    AreAnswersTo task lines b → a ≡ b
answers_are_one (Read border) lines a b p q = record_answers_are_one (Read border) lines a b p q
answers_are_one (Check border) lines a b p q = record_answers_are_one (Check border) lines a b p q
answers_are_one (Normal border profile) lines a b p q = record_answers_are_one (Normal border profile) lines a b p q
answers_are_one (Write profile) lines a b p q =
    matched_unique (IsAnswerToLine profile) (line_answer_is_one profile) lines a b p q
answers_are_one Table lines a b p q = record_answers_are_one Table lines a b p q

-- Some lines have only one prefix in which all is closed.
closed_is_one : (task : Task) (lines c d : List (List ℕ)) → AreClosedLines task lines c → AreClosedLines task lines d →
    c ≡ d
closed_is_one (Read border) lines c d p q =
    (last_blank_unique c p.0 d q.0 (sym p.1.whole ∙ q.1.whole) p.1.full q.1.full p.1.blank q.1.blank).0
closed_is_one (Check border) lines c d p q =
    (last_blank_unique c p.0 d q.0 (sym p.1.whole ∙ q.1.whole) p.1.full q.1.full p.1.blank q.1.blank).0
closed_is_one (Normal border profile) lines c d p q =
    (last_blank_unique c p.0 d q.0 (sym p.1.whole ∙ q.1.whole) p.1.full q.1.full p.1.blank q.1.blank).0
closed_is_one (Write profile) lines c d p q = p ∙ sym q
closed_is_one Table lines c d p q =
    (last_blank_unique c p.0 d q.0 (sym p.1.whole ∙ q.1.whole) p.1.full q.1.full p.1.blank q.1.blank).0

-- All records or message lines of a text have only one list of answers.
all_answers_are_one : (task : Task) (text : List ℕ) (a b : List Answer) → AreAllAnswers task text a →
    AreAllAnswers task text b → a ≡ b
all_answers_are_one task text a b p q =
    let same = split_unique p.lines q.lines text p.rest q.rest p.split q.split in
    answers_are_one task (q.lines ++ last_line q.rest) a b
    (subst (λ l. AreAnswersTo task l a) (ap (λ l. l ++ last_line p.rest) same.0
    ∙ ap (λ r. q.lines ++ last_line r) same.1) p.answered) q.answered

-- The records or message lines that are closed within a text have only one list of answers.
closed_answers_are_one : (task : Task) (text : List ℕ) (a b : List Answer) → AreClosedAnswers task text a →
    AreClosedAnswers task text b → a ≡ b
closed_answers_are_one task text a b p q =
    let same = split_unique p.lines q.lines text p.rest q.rest p.split q.split in
    let closed =
    closed_is_one task q.lines p.closed q.closed (subst (λ l. AreClosedLines task l p.closed) same.0 p.are_closed)
    q.are_closed in
    answers_are_one task q.closed a b (subst (λ l. AreAnswersTo task l a) closed p.answered) q.answered

-- Only one thing is written for a text as a whole, with one tally.
pub one_out : (task : Task) (text a b : List ℕ) (s t : Tally) → IsOut task text a s → IsOut task text b t →
    (a ≡ b) × (s ≡ t)
one_out (Read border) text a b s t p q = let same = all_answers_are_one (Read border) text p.0 q.0 p.1 q.1 in
    (p.2 ∙ ap answers_text same ∙ sym q.2, p.3 ∙ ap tally_of same ∙ sym q.3)
one_out (Check border) text a b s t p q = let same = all_answers_are_one (Check border) text p.0 q.0 p.1 q.1 in
    (p.2 ∙ ap answers_text same ∙ sym q.2, p.3 ∙ ap tally_of same ∙ sym q.3)
one_out (Normal border profile) text a b s t p q = let same =
    all_answers_are_one (Normal border profile) text p.0 q.0 p.1 q.1 in
    (p.2 ∙ ap answers_text same ∙ sym q.2, p.3 ∙ ap tally_of same ∙ sym q.3)
one_out (Write profile) text a b s t p q = let same = all_answers_are_one (Write profile) text p.0 q.0 p.1 q.1 in
    (p.2 ∙ ap answers_text same ∙ sym q.2, p.3 ∙ ap tally_of same ∙ sym q.3)
one_out Table text a b s t p q = (p.1 ∙ sym q.1, p.2 ∙ sym q.2)

-- Only one thing is written for a text that may go on.
pub one_done : (task : Task) (text a b : List ℕ) → IsOutSoFar task text a → IsOutSoFar task text b → a ≡ b
one_done (Read border) text a b p q =
    p.2 ∙ ap answers_text (closed_answers_are_one (Read border) text p.0 q.0 p.1 q.1) ∙ sym q.2
one_done (Check border) text a b p q =
    p.2 ∙ ap answers_text (closed_answers_are_one (Check border) text p.0 q.0 p.1 q.1) ∙ sym q.2
one_done (Normal border profile) text a b p q =
    p.2 ∙ ap answers_text (closed_answers_are_one (Normal border profile) text p.0 q.0 p.1 q.1) ∙ sym q.2
one_done (Write profile) text a b p q =
    p.2 ∙ ap answers_text (closed_answers_are_one (Write profile) text p.0 q.0 p.1 q.1) ∙ sym q.2
one_done Table text a b p q = p.1 ∙ sym q.1
