-- A text that is cut between records, or between message lines, is answered part by part.
use Rattle.std.proofs.Common.{◌≡◌, ◌≢◌, ◌∙◌, ◌⊎◌, inl, inr, ℕ, List, [], ◌∷◌, ◌++◌, refl, sym, ap, ap₂, subst}
use Rattle.std.proofs.Common.{append_assoc, append-nil, map, flat_map, arith}
use Rattle.std.specs.List.{AllByRecursion, concat}
use Rattle.std.proofs.lemmas.List.Sums.{sum_by-append}
use Rattle.dm_text.specs.declared.task.Task.{Task}
use Rattle.dm_text.specs.declared.task.Task.TheVariants.{Read, Check, Normal, Write, Table}
use Rattle.dm_text.specs.declared.task.Tally.{Tally}
use Rattle.dm_text.specs.Texts.{lf, HasNoLf, IsSplit, ended_lines, last_line}
use Rattle.dm_text.specs.Records.{no_line}
use Rattle.dm_text.specs.Answers.{Answer}
use Rattle.dm_text.specs.Runs.{AreAllAnswers, AreAnswersTo, AreAnswersToRecords, IsAnswerToLine, IsAnswerToRecord}
use Rattle.dm_text.specs.Runs.{IsOut, tally_of, answers_text}
use Rattle.dm_text.specs.Cuts.{AreCutBetween, AreOuts, EndsBetween, PartOut, tally_sum, sum_of}
use Rattle.dm_text.proofs.Texts.{split_unique}
use Rattle.dm_text.proofs.EachSplit.{text_is_split}
use Rattle.dm_text.proofs.RecordCuts.{split_lines}
use Rattle.dm_text.proofs.RecordTexts.{EndsBlank, records_append}
use Rattle.dm_text.proofs.AnsweredSoFar.{matched_append, out_by}
use Rattle.dm_text.proofs.Outcomes.{written_append}

-- ---- the lines of a text that ends between

-- Some bytes, an LF and then whole lines are split into lines, of which these are the last.
ended_then : (prefix : List ℕ) (more : List (List ℕ)) → AllByRecursion HasNoLf more →
    (lines : List (List ℕ)) × IsSplit (prefix ++ lf ∷ ended_lines more) (lines ++ more) []
ended_then prefix more free =
    let t = text_is_split prefix in
    let last : IsSplit (t.rest ++ lf ∷ ended_lines more) (t.rest ∷ more) [] = record {
      whole = sym (append_assoc t.rest (lf ∷ []) (ended_lines more)) ∙ sym (append-nil (ended_lines (t.rest ∷ more)));
      lines_no_lf = (t.split.rest_no_lf, free);
      rest_no_lf = tt;
    } in
    let all = split_lines t.lines (t.rest ∷ more) (t.rest ++ lf ∷ ended_lines more) [] t.split.lines_no_lf last in
    let text_is : ended_lines t.lines ++ (t.rest ++ lf ∷ ended_lines more) ≡ prefix ++ lf ∷ ended_lines more =
    sym (append_assoc (ended_lines t.lines) t.rest (lf ∷ ended_lines more))
    ∙ ap (λ l. l ++ lf ∷ ended_lines more) (sym t.split.whole) in (
      t.lines ++ t.rest ∷ [],
      subst (λ l. IsSplit (prefix ++ lf ∷ ended_lines more) l []) (sym (append_assoc t.lines (t.rest ∷ []) more))
          (subst (λ l. IsSplit l (t.lines ++ t.rest ∷ more) []) text_is all),
    )

-- The empty text has no lines.
no_lines : IsSplit [] [] []
no_lines = record { whole = refl; lines_no_lf = tt; rest_no_lf = tt }

-- The lines of a text that is empty or ends with an empty line end with an empty one, if there are any.
blank_lines : (text : List ℕ) → (text ≡ []) ⊎ ((text ≡ lf ∷ []) ⊎ ((prefix : List ℕ) × (text ≡ prefix ++ lf ∷ lf ∷ [])))
    → (lines : List (List ℕ)) × IsSplit text lines [] × EndsBlank lines
blank_lines text (inl none) = ([], subst (λ l. IsSplit l [] []) (sym none) no_lines, inl refl)
blank_lines text (inr (inl one)) = (
  [] ∷ [],
  subst (λ l. IsSplit l ([] ∷ []) []) (sym one)
      (record { whole = refl; lines_no_lf = (tt, tt); rest_no_lf = tt }),
  inr ([], refl),
)
blank_lines text (inr (inr some)) =
    let t = ended_then some.0 ([] ∷ []) (tt, tt) in
    (t.0 ++ [] ∷ [], subst (λ l. IsSplit l (t.0 ++ [] ∷ []) []) (sym some.1) t.1, inr (t.0, refl))

-- A text that is empty or ends with LF is split into lines without a rest.
whole_lines : (text : List ℕ) → (text ≡ []) ⊎ ((prefix : List ℕ) × (text ≡ prefix ++ lf ∷ [])) →
    (lines : List (List ℕ)) × IsSplit text lines []
whole_lines text (inl none) = ([], subst (λ l. IsSplit l [] []) (sym none) no_lines)
whole_lines text (inr some) =
    let t = ended_then some.0 [] tt in
    (t.0 ++ [], subst (λ l. IsSplit l (t.0 ++ []) []) (sym some.1) t.1)

-- ---- two parts

-- The answers to these lines, and those to any lines after them, are together the answers to all.
abbrev AreJoined : Task → List (List ℕ) → Type 0
AreJoined task lines = (more : List (List ℕ)) (x y : List Answer) → AreAnswersTo task lines x →
    AreAnswersTo task more y → AreAnswersTo task (lines ++ more) (x ++ y)

-- Where the first lines end with an empty one, the answers to their records, and those to the records after them, are
-- together the answers to all.
records_joined : (task : Task) (lines more : List (List ℕ)) (x y : List Answer) → EndsBlank lines →
    AreAnswersToRecords task lines x → AreAnswersToRecords task more y
    → AreAnswersToRecords task (lines ++ more) (x ++ y)
records_joined task lines more x y blank p q = (
  p.0 ++ q.0,
  records_append lines more p.0 q.0 p.1 blank q.1,
  matched_append (IsAnswerToRecord task) p.0 q.0 x y p.2 q.2,
)

-- The answers to two parts of a text are together the answers to the whole.
answers_joined : (task : Task) (first second : List ℕ) (lines : List (List ℕ)) (x y : List Answer) →
    IsSplit first lines [] → AreJoined task lines
    → AreAllAnswers task first x → AreAllAnswers task second y → AreAllAnswers task (first ++ second) (x ++ y)
answers_joined task first second lines x y split joined p q =
    let same = split_unique p.lines lines first p.rest [] p.split split in
    let here =
    subst (λ r. AreAnswersTo task (lines ++ last_line r) x) same.1
    (subst (λ l. AreAnswersTo task (l ++ last_line p.rest) x) same.0 p.answered) in
    let first_is : ended_lines lines ++ second ≡ first ++ second =
    ap (λ l. l ++ second) (sym (append-nil (ended_lines lines)) ∙ sym split.whole) in
    record {
      lines = lines ++ q.lines;
      rest = q.rest;
      split =
          subst (λ l. IsSplit l (lines ++ q.lines) q.rest) first_is
          (split_lines lines q.lines second q.rest split.lines_no_lf q.split);
      answered = subst (λ l. AreAnswersTo task l (x ++ y)) (sym (append_assoc lines q.lines (last_line q.rest)))
          (joined (q.lines ++ last_line q.rest) x y (subst (λ l. AreAnswersTo task l x) (append-nil lines) here)
          q.answered);
    }

-- The tally of answers and further ones is the sum of their tallies.
tally_append : (x y : List Answer) → tally_of (x ++ y) ≡ tally_sum (tally_of x) (tally_of y)
tally_append x y = ap₂ (λ m n. record { answered = m; refused = n }) (sum_by-append _ x y) (sum_by-append _ x y)

-- What is written for a text, and its tally, where the task isn't the table.
abbrev OutOf : Task → List ℕ → List ℕ → Tally → Type 0
OutOf task text out tally =
    (answers : List Answer) × AreAllAnswers task text answers × (out ≡ answers_text answers)
    × (tally ≡ tally_of answers)

-- What is written for two parts of a text is together what is written for the whole, and the tallies add up.
outs_joined : (task : Task) (first second a b : List ℕ) (s t : Tally) (lines : List (List ℕ)) → IsSplit first lines [] →
    AreJoined task lines
    → OutOf task first a s → OutOf task second b t → OutOf task (first ++ second) (a ++ b) (tally_sum s t)
outs_joined task first second a b s t lines split joined p q = (
  p.0 ++ q.0,
  answers_joined task first second lines p.0 q.0 split joined p.1 q.1,
  ap₂ (λ l m. l ++ m) p.2 q.2 ∙ sym (written_append p.0 q.0),
  ap₂ tally_sum p.3 q.3 ∙ sym (tally_append p.0 q.0),
)

-- A text that is cut in two between records, or between message lines, is answered as its two parts are.
pub two_parts : (task : Task) (first second a b : List ℕ) (s t : Tally) → task ≢ Table → EndsBetween task first →
    IsOut task first a s → IsOut task second b t
    → IsOut task (first ++ second) (a ++ b) (tally_sum s t)
two_parts (Read border) first second a b s t reads ends p q =
    let l = blank_lines first ends in
    outs_joined (Read border) first second a b s t l.0 l.1 (λ more x y. records_joined (Read border) l.0 more x y l.2) p
    q
two_parts (Check border) first second a b s t reads ends p q =
    let l = blank_lines first ends in
    outs_joined (Check border) first second a b s t l.0 l.1 (λ more x y. records_joined (Check border) l.0 more x y l.2)
    p q
two_parts (Normal border profile) first second a b s t reads ends p q =
    let l = blank_lines first ends in
    outs_joined (Normal border profile) first second a b s t l.0 l.1
    (λ more x y. records_joined (Normal border profile) l.0 more x y l.2) p q
two_parts (Write profile) first second a b s t reads ends p q =
    let l = whole_lines first ends in
    outs_joined (Write profile) first second a b s t l.0 l.1
    (λ more x y u v. matched_append (IsAnswerToLine profile) l.0 more x y u v) p q
two_parts Table first second a b s t reads ends p q = absurd (reads refl)

-- ---- any number of parts

-- Where there are no lines there are no answers.
no_answers : (task : Task) → AreAnswersTo task [] []
no_answers (Read border) = ([], no_line, tt)
no_answers (Check border) = ([], no_line, tt)
no_answers (Normal border profile) = ([], no_line, tt)
no_answers (Write profile) = tt
no_answers Table = ([], no_line, tt)

-- Nothing is written for the empty text.
no_out : (task : Task) → task ≢ Table → IsOut task [] [] (tally_of [])
no_out task reads =
    out_by task [] [] reads (record { lines = []; rest = []; split = no_lines; answered = no_answers task })

-- Adding the tally of no answers changes no tally.
added_none : (t : Tally) → tally_sum t (tally_of []) ≡ t
added_none t = ap₂ (λ m n. record { answered = m; refused = n }) (omega arith) (omega arith)

-- A text that is cut between records, or between message lines, is answered as its parts are, however many.
pub all_parts : (task : Task) (parts : List (List ℕ)) (outs : List PartOut) → task ≢ Table → AreCutBetween task parts →
    AreOuts task parts outs
    → IsOut task (concat parts) (flat_map (λ given. given.out) outs) (sum_of (map (λ given. given.tally) outs))
all_parts task [] [] reads cut are = no_out task reads
all_parts task [] (given ∷ outs) reads cut are = absurd are
all_parts task (part ∷ parts) [] reads cut are = absurd are
all_parts task (part ∷ []) (given ∷ []) reads cut are =
    subst (λ l. IsOut task l (given.out ++ []) (tally_sum given.tally (tally_of []))) (sym (append-nil part))
    (subst (λ l. IsOut task part l (tally_sum given.tally (tally_of []))) (sym (append-nil given.out))
    (subst (IsOut task part given.out) (sym (added_none given.tally)) are.0))
all_parts task (part ∷ []) (given ∷ other ∷ outs) reads cut are = absurd are.1
all_parts task (part ∷ next ∷ parts) (given ∷ outs) reads cut are =
    two_parts task part (concat (next ∷ parts)) given.out (flat_map (λ o. o.out) outs) given.tally
    (sum_of (map (λ o. o.tally) outs)) reads cut.0 are.0
    (all_parts task (next ∷ parts) outs reads cut.1 are.1)
