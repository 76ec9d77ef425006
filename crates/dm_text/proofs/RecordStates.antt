-- How an open record is kept, as it grows.
use Rattle.std.proofs.Common.{◌≡◌, ◌≢◌, ◌∙◌, ℕ, ◌⊎◌, Bool, true, false, not, List, [], ◌∷◌, ◌++◌, ◌<◌, refl, sym, ap}
use Rattle.std.proofs.Common.{subst, append_assoc, append-nil, length, arith}
use Rattle.std.specs.Prelude.{◌||◌, ◌↔◌, IsTrue}
use Rattle.std.specs.List.{list_any}
use Rattle.std.proofs.lemmas.List.Folds.{list_any-append}
use Rattle.dm_text.specs.declared.rows.Rows.{Rows}
use Rattle.dm_text.specs.declared.record.Contents.{Contents}
use Rattle.dm_text.specs.declared.record.Contents.TheVariants as kept
use Rattle.dm_text.specs.Texts.{lf, HasNoLf, last_line}
use Rattle.dm_text.specs.Records.{has_foreign, is_foreign, is_large}
use Rattle.dm_text.specs.RecordFacts.{RecordContents, Foreign, Large, Cells, RecordFacts, AreRecordFacts, contents_of}
use Rattle.dm_text.specs.RecordFacts.{facts_of_record}
use Rattle.dm_text.specs.inner.OpenRecords.{AreContents, EndsLines, HoldsLines, IsRecordState, contents_seen, is_ended}
use Rattle.dm_text.specs.inner.OpenRecords.{line_count, rows_seen}
use Rattle.std.proofs.lemmas.Bool.{eqb-true, eq-eqb}
use Rattle.dm_text.proofs.RecordSteps.{any_last, contents_passed, character_is, character_step, contents_end, no_lines}
use Rattle.dm_text.proofs.RecordSteps.{or_cases, same_facts}
use Rattle.dm_text.proofs.KeptRows.{begins, lines_end, seen_is}
use Rattle.dm_text.proofs.OpenRecordTexts.{grown_characters, grown_end, grown_lines}

-- The record that is kept stands for these facts.
abbrev pub value : Bool → Contents → RecordFacts
value e c = record { ended = e; contents = contents_seen c }

-- The contents that are kept are seen as those of the lines and the rest.
contents_are : (c : Contents) (lines : List (List ℕ)) (rest : List ℕ) → AreContents c lines rest →
    contents_seen c ≡ contents_of lines rest
contents_are kept.Foreign lines rest h = sym h
contents_are kept.Large lines rest h = sym h
contents_are (kept.Cells t) lines rest h = seen_is t lines rest h

-- The record that is kept stands for the facts of its lines and its rest.
pub value_is : (e : Bool) (c : Contents) → (s : IsRecordState e c) → value e c ≡ facts_of_record s.lines s.rest
value_is e c s =
    same_facts e (is_ended s.lines s.rest) (contents_seen c) (contents_of s.lines s.rest) s.ended_is
    (contents_are c s.lines s.rest s.contents_are)

-- A rest with more characters isn't that of an ended record.
pub not_nothing : (lines : List (List ℕ)) (rest more : List ℕ) → 0 < length more → false ≡ is_ended lines (rest ++ more)
not_nothing lines [] [] some = absurd (omega arith)
not_nothing lines [] (y ∷ ys) some = refl
not_nothing lines (x ∷ r) more some = refl

-- A record is kept with more characters in its rest.
abbrev pub with_characters : (e : Bool) (c d : Contents) (more : List ℕ) (s : IsRecordState e c) → 0 < length more →
    AreContents d s.lines (s.rest ++ more) → IsRecordState false d
with_characters e c d more s some h =
    record { lines = s.lines; rest = s.rest ++ more; ended_is = not_nothing s.lines s.rest more some; contents_are = h }

-- Contents with one more character in the rest are what the step of that character gives.
step_contents : (lines : List (List ℕ)) (rest : List ℕ) (b : ℕ)
    → contents_of lines (rest ++ b ∷ []) ≡ character_step (is_ended lines rest || no_lines (contents_of lines rest))
    (contents_of lines rest) b
step_contents lines rest b = ap (λ f. f.contents) (character_is lines rest b)

-- The step of a foreign character gives foreign contents.
foreign_step : (t : Bool) (C : RecordContents) (b : ℕ) → is_foreign b ≡ true → character_step t C b ≡ Foreign
foreign_step t Foreign b e = refl
foreign_step t Large b e = rw e refl
foreign_step t (Cells c f l rows) b e = rw e refl

-- A foreign character makes the contents foreign.
pub foreign_more : (lines : List (List ℕ)) (rest : List ℕ) (b : ℕ) → is_foreign b ≡ true →
    contents_of lines (rest ++ b ∷ []) ≡ Foreign
foreign_more lines rest b e = step_contents lines rest b ∙ foreign_step _ (contents_of lines rest) b e

-- Foreign contents stay foreign with one more character.
foreign_stays : (lines : List (List ℕ)) (rest : List ℕ) (b : ℕ) → contents_of lines rest ≡ Foreign →
    contents_of lines (rest ++ b ∷ []) ≡ Foreign
foreign_stays lines rest b e =
    step_contents lines rest b ∙ ap (λ C. character_step (is_ended lines rest || no_lines C) C b) e

-- Foreign contents stay foreign with more characters.
pub all_foreign : (lines : List (List ℕ)) (rest more : List ℕ) → contents_of lines rest ≡ Foreign →
    contents_of lines (rest ++ more) ≡ Foreign
all_foreign lines rest [] e = ap (contents_of lines) (append-nil rest) ∙ e
all_foreign lines rest (b ∷ more) e =
    ap (contents_of lines) (sym (append_assoc rest (b ∷ []) more))
    ∙ all_foreign lines (rest ++ b ∷ []) more (foreign_stays lines rest b e)

-- Contents that are too large stay so with one more cell.
large_stays : (lines : List (List ℕ)) (rest : List ℕ) (b : ℕ) → is_foreign b ≡ false → contents_of lines rest ≡ Large →
    contents_of lines (rest ++ b ∷ []) ≡ Large
large_stays lines rest b n e =
    step_contents lines rest b ∙ ap (λ C. character_step (is_ended lines rest || no_lines C) C b) e ∙ rw n refl

-- A mark, foreign or too large, stays with one more cell.
mark_stays : (c : Contents) (lines : List (List ℕ)) (rest : List ℕ) (b : ℕ) → is_foreign b ≡ false →
    ((t : Rows) → c ≢ kept.Cells t) → AreContents c lines rest
    → AreContents c lines (rest ++ b ∷ [])
mark_stays kept.Foreign lines rest b n m h = foreign_stays lines rest b h
mark_stays kept.Large lines rest b n m h = large_stays lines rest b n h
mark_stays (kept.Cells t) lines rest b n m h = absurd (m t refl)

-- A mark, foreign or too large, stays with more cells.
pub marks_stay : (c : Contents) (lines : List (List ℕ)) (rest more : List ℕ) → list_any is_foreign more ≡ false →
    ((t : Rows) → c ≢ kept.Cells t)
    → AreContents c lines rest → AreContents c lines (rest ++ more)
marks_stay c lines rest [] n m h = subst (AreContents c lines) (sym (append-nil rest)) h
marks_stay c lines rest (b ∷ more) n m h =
    let both = or_cases (is_foreign b) (list_any is_foreign more) n in
    subst (AreContents c lines) (append_assoc rest (b ∷ []) more)
    (marks_stay c lines (rest ++ b ∷ []) more both.1 m (mark_stays c lines rest b both.0 m h))

-- A record that is kept with more characters is that of the text with these characters after it.
pub grown_by : (text : List ℕ) (f : RecordFacts) (e : Bool) (c d : Contents) (more : List ℕ) (s : IsRecordState e c) →
    AreRecordFacts text f → HasNoLf more → 0 < length more
    → value e c ≡ f → AreContents d s.lines (s.rest ++ more) → AreRecordFacts (text ++ more) (value false d)
grown_by text f e c d more s known n some is h =
    grown_characters text f (value false d) s.lines s.rest more known n (sym is ∙ value_is e c s)
    (value_is false d (with_characters e c d more s some h))

-- A record that has lines and hasn't ended has a rest.
some_lines : (lines : List (List ℕ)) (rest : List ℕ) → false ≡ is_ended lines rest →
    (no_lines (contents_of lines rest) ≡ true → ⊥) → (x : ℕ) × (r : List ℕ) × (rest ≡ x ∷ r)
some_lines lines (x ∷ r) e n = (x, r, refl)
some_lines [] [] e n = absurd (n refl)
some_lines (l ∷ lines) [] e n = let both : false ≡ true = e in cc

-- Lines of which there is at least one, without a rest, have ended.
pub ended_now : (lines : List (List ℕ)) (line : List ℕ) → true ≡ is_ended (lines ++ line ∷ []) []
ended_now [] line = refl
ended_now (l ∷ lines) line = refl

-- A record is kept with its rest ended as a line.
abbrev pub with_end : (c d : Contents) (s : IsRecordState false c) (x : ℕ) (r : List ℕ) → s.rest ≡ x ∷ r →
    AreContents d (s.lines ++ (x ∷ r) ∷ []) [] → IsRecordState true d
with_end c d s x r e h =
    record { lines = s.lines ++ (x ∷ r) ∷ []; rest = []; ended_is = ended_now s.lines (x ∷ r); contents_are = h }

-- A record that has a line, and whose last one hasn't ended, has a rest.
pub some_rest_kept : (c : Contents) (s : IsRecordState false c) → (no_lines (contents_seen c) ≡ true → ⊥) →
    (x : ℕ) × (r : List ℕ) × (s.rest ≡ x ∷ r)
some_rest_kept c s n =
    some_lines s.lines s.rest s.ended_is (λ e. n (ap no_lines (contents_are c s.lines s.rest s.contents_are) ∙ e))

-- Where a record has ended or has no line, its rows are those of its lines, and it has no rest.
none_begun : (e : Bool) (c : Contents) (t : Rows) (s : IsRecordState e c) → c ≡ kept.Cells t →
    (e ≡ true) ⊎ (line_count t ≡ 0)
    → (s.rest ≡ []) × HoldsLines t s.lines []
none_begun e c t s is why =
    let held : HoldsLines t s.lines s.rest = subst (λ (k : Contents). AreContents k s.lines s.rest) is s.contents_are in
    let none = begins t s.lines s.rest e held s.ended_is why in
    (none, subst (HoldsLines t s.lines) none held)

-- A record is kept with whole lines more.
pub lines_kept : (bytes : List ℕ) (e none : Bool) (c : Contents) (t u : Rows) (s : IsRecordState e c) →
    c ≡ kept.Cells t → (e ≡ true) ⊎ (line_count t ≡ 0)
    → ((lines : List (List ℕ)) → HoldsLines t lines [] → EndsLines u lines bytes) → (IsTrue none ↔ (line_count u ≡ 0)) →
    IsRecordState (not none) (kept.Cells u)
lines_kept bytes e none c t u s is why ends by =
    let more = ends s.lines (none_begun e c t s is why).1 in
    record {
      lines = s.lines ++ more.more;
      rest = [];
      ended_is = lines_end u (s.lines ++ more.more) none more.held by;
      contents_are = more.held;
    }

-- A record that is kept with whole lines more is that of the text with these lines after it.
pub lines_by : (text bytes : List ℕ) (f : RecordFacts) (e none : Bool) (c : Contents) (t u : Rows)
    (s : IsRecordState e c) → c ≡ kept.Cells t → (e ≡ true) ⊎ (line_count t ≡ 0)
    → ((lines : List (List ℕ)) → HoldsLines t lines [] → EndsLines u lines bytes) → (IsTrue none ↔ (line_count u ≡ 0)) →
    value e c ≡ f → AreRecordFacts text f
    → AreRecordFacts (text ++ bytes) (value (not none) (kept.Cells u))
unfolding lines_kept
lines_by text bytes f e none c t u s is why ends by seen known =
    let before = none_begun e c t s is why in
    let more = ends s.lines before.1 in
    let facts : f ≡ facts_of_record s.lines [] = sym seen ∙ value_is e c s ∙ ap (facts_of_record s.lines) before.0 in
    subst (λ (k : RecordFacts). AreRecordFacts (text ++ bytes) k)
    (sym (value_is (not none) (kept.Cells u) (lines_kept bytes e none c t u s is why ends by)))
    (subst (λ (l : List ℕ). AreRecordFacts (text ++ l) (facts_of_record (s.lines ++ more.more) [])) (sym more.bytes_are)
    (grown_lines text f s.lines more.more known facts more.full))

-- A mark, foreign or too large, stays where a line ends.
pub mark_ends : (c : Contents) (lines : List (List ℕ)) (x : ℕ) (r : List ℕ) → ((t : Rows) → c ≢ kept.Cells t) →
    AreContents c lines (x ∷ r) → AreContents c (lines ++ (x ∷ r) ∷ []) []
mark_ends kept.Foreign lines x r m h = contents_end lines x r ∙ rw h refl
mark_ends kept.Large lines x r m h = contents_end lines x r ∙ rw h refl
mark_ends (kept.Cells t) lines x r m h = absurd (m t refl)

-- Contents that are foreign or too large have a line.
mark_some : (c : Contents) → ((t : Rows) → c ≢ kept.Cells t) → no_lines (contents_seen c) ≡ true → ⊥
mark_some kept.Foreign m e = cc
mark_some kept.Large m e = cc
mark_some (kept.Cells t) m e = m t refl

-- A record that is kept with its rest ended as a line is that of the text with an LF after it.
pub ended_by : (text : List ℕ) (f : RecordFacts) (c d : Contents) (s : IsRecordState false c) (x : ℕ) (r : List ℕ) →
    AreRecordFacts text f → value false c ≡ f
    → s.rest ≡ x ∷ r → AreContents d (s.lines ++ (x ∷ r) ∷ []) [] → AreRecordFacts (text ++ lf ∷ []) (value true d)
ended_by text f c d s x r known is e h =
    grown_end text f (value true d) s.lines x r known (sym is ∙ value_is false c s ∙ ap (facts_of_record s.lines) e)
    (value_is true d (with_end c d s x r e h))

-- A marked record is kept where a line ends.
pub marks_end : (c : Contents) (s : IsRecordState false c) → ((t : Rows) → c ≢ kept.Cells t) → IsRecordState true c
marks_end c s m =
    let r = some_rest_kept c s (mark_some c m) in
    with_end c c s r.0 r.1 r.2 (mark_ends c s.lines r.0 r.1 m (subst (AreContents c s.lines) r.2 s.contents_are))

-- A marked record whose line ends is that of the text with an LF after it.
pub marks_ended_by : (text : List ℕ) (f : RecordFacts) (c : Contents) (s : IsRecordState false c) →
    ((t : Rows) → c ≢ kept.Cells t) → AreRecordFacts text f → value false c ≡ f
    → AreRecordFacts (text ++ lf ∷ []) (value true c)
marks_ended_by text f c s m known is =
    let r = some_rest_kept c s (mark_some c m) in
    ended_by text f c c s r.0 r.1 known is r.2 (mark_ends c s.lines r.0 r.1 m
    (subst (AreContents c s.lines) r.2 s.contents_are))

-- Lines without a foreign character stay so with more cells in the rest.
foreign_none : (lines : List (List ℕ)) (rest more : List ℕ) → has_foreign (lines ++ last_line rest) ≡ false →
    list_any is_foreign more ≡ false
    → has_foreign (lines ++ last_line (rest ++ more)) ≡ false
foreign_none lines [] [] h n = h
foreign_none lines [] (y ∷ ys) h n =
    let g : has_foreign lines ≡ false =
    rw (append-nil lines) at h in any_last (list_any is_foreign) lines (y ∷ ys) ∙ rw (g, n) refl
foreign_none lines (x ∷ r) more h n =
    let parts =
    or_cases (has_foreign lines) (list_any is_foreign (x ∷ r)) (sym (any_last (list_any is_foreign) lines (x ∷ r))
    ∙ h) in
    let longer : list_any is_foreign ((x ∷ r) ++ more) ≡ false =
    list_any-append is_foreign (x ∷ r) more ∙ rw (parts.1, n) refl in
    any_last (list_any is_foreign) lines ((x ∷ r) ++ more) ∙ rw (parts.0, longer) refl

-- Characters for which there is no room make the contents too large.
pub large_by : (t : Rows) (lines : List (List ℕ)) (rest more : List ℕ) → HoldsLines t lines rest →
    list_any is_foreign more ≡ false
    → is_large (lines ++ last_line (rest ++ more)) ≡ true → contents_of lines (rest ++ more) ≡ Large
large_by t lines rest more h n large = rw (foreign_none lines rest more h.cells n, large) refl

-- A record whose end is told by an equation is kept as one that hasn't ended.
at_false : (e : Bool) (c : Contents) → e ≡ false → IsRecordState e c → IsRecordState false c
at_false e c h s = subst (λ t. IsRecordState t c) h s

-- A line of cells that ends gives the record of the text with an LF after it.
pub cells_end_by : (text : List ℕ) (f : RecordFacts) (e : Bool) (c : Contents) (t u : Rows) → IsRecordState e c →
    e ≡ false → c ≡ kept.Cells t → line_count t ≢ 0 → value e c ≡ f
    → AreRecordFacts text f → ((lines : List (List ℕ)) (rest : List ℕ) → HoldsLines t lines rest → rest ≢ [] →
    HoldsLines u (lines ++ rest ∷ []) [])
    → AreRecordFacts (text ++ lf ∷ []) (value true (kept.Cells u))
cells_end_by text f e c t u s h is some seen known ends =
    let s0 = at_false e (kept.Cells t) h (subst (λ k. IsRecordState e k) is s) in
    let seen0 : value false (kept.Cells t) ≡ f =
    ap (λ k. value false k) (sym is) ∙ ap (λ k. value k c) (sym h) ∙ seen in
    let r = some_rest_kept (kept.Cells t) s0 (λ z. some (eqb-true (line_count t) 0 z)) in
    let held : HoldsLines t s0.lines (r.0 ∷ r.1) = subst (HoldsLines t s0.lines) r.2 s0.contents_are in
    ended_by text f (kept.Cells t) (kept.Cells u) s0 r.0 r.1 known seen0 r.2 (ends s0.lines (r.0 ∷ r.1) held (λ k. cc))

-- A marked record that hasn't ended is kept where its line ends.
pub marks_end_at : (e : Bool) (c : Contents) → IsRecordState e c → e ≡ false → ((t : Rows) → c ≢ kept.Cells t) →
    IsRecordState true c
marks_end_at e c s h m = marks_end c (at_false e c h s) m

-- A marked record that hasn't ended and whose line ends is that of the text with an LF after it.
pub marks_end_by : (text : List ℕ) (f : RecordFacts) (e : Bool) (c : Contents) → IsRecordState e c → e ≡ false →
    ((t : Rows) → c ≢ kept.Cells t) → value e c ≡ f
    → AreRecordFacts text f → AreRecordFacts (text ++ lf ∷ []) (value true c)
marks_end_by text f e c s h m seen known =
    marks_ended_by text f c (at_false e c h s) m known (ap (λ k. value k c) (sym h) ∙ seen)

-- Where no line is counted the contents have none.
pub none_counted : (c : Contents) (t : Rows) (f : RecordFacts) (e : Bool) → c ≡ kept.Cells t → value e c ≡ f →
    line_count t ≡ 0 → no_lines f.contents ≡ true
none_counted c t f e is seen zero =
    ap (λ k. no_lines k.contents) (sym seen) ∙ ap (λ k. no_lines (contents_seen k)) is ∙ eq-eqb (line_count t) 0 zero

-- As many lines are counted as the record has.
pub counted_lines : (c : Contents) (t : Rows) (f : RecordFacts) (e : Bool) (lines : List (List ℕ)) (rest : List ℕ) →
    c ≡ kept.Cells t → value e c ≡ f → f ≡ facts_of_record lines rest
    → line_count t ≡ length (lines ++ last_line rest)
counted_lines c t f e lines rest is seen facts =
    let same : Cells (line_count t) t.first t.last (rows_seen t) ≡ contents_of lines rest =
    ap contents_seen (sym is) ∙ ap (λ k. k.contents) (seen ∙ facts) in
    sym (contents_passed lines rest (line_count t) t.first t.last (rows_seen t) (sym same)).2

-- A list of length 0 is empty.
pub no_line_left : {X : Type 0} (xs : List X) → length xs ≡ 0 → xs ≡ []
no_line_left [] e = refl
no_line_left (x ∷ xs) e = absurd (omega arith)
