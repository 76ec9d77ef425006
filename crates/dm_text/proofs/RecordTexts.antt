-- A grid text that goes on, and one that ends.
use Rattle.std.proofs.Common.{◌≡◌, ◌≢◌, ◌∙◌, ◌⊎◌, ℕ, List, [], ◌∷◌, ◌++◌, refl, sym, ap, subst, append_assoc}
use Rattle.std.proofs.Common.{append-nil, map, drop, inl, inr}
use Rattle.std.specs.List.{AllByRecursion, concat}
use Rattle.std.proofs.lemmas.Grind.{flat_map-append}
use Rattle.std.proofs.lemmas.List.{map-append}
use Rattle.dm_text.specs.Texts.{lf, HasNoLf, ended_lines, last_line, IsSplit}
use Rattle.dm_text.specs.Records.{AreLfs, AreFullLines, AreRecords, BeginsBlank, empty_line, longest_stretch, no_line}
use Rattle.dm_text.specs.Records.{record_of}
use Rattle.dm_text.specs.RecordFacts.{RecordFacts, AreRecordFacts}
use Rattle.dm_text.specs.RecordFeeds.{RecordMeaning, AreRecordsFed, AreRecordsOfText, ClosesRecord, LastRecordMeans}
use Rattle.dm_text.specs.RecordFeeds.{LeavesRecordOpen, closes, leaves_open, no_piece}
use Rattle.dm_text.proofs.Texts.{split_unique}
use Rattle.dm_text.proofs.RecordCuts.{after_blank_prefix, blank_is_none, fed_after, full_some, later_blank, split_lines}
use Rattle.dm_text.proofs.RecordCuts.{split_open}

-- There is no line, or an empty one comes last.
abbrev pub EndsBlank : List (List ℕ) → Type 0
EndsBlank lines = (lines ≡ []) ⊎ ((prefix : List (List ℕ)) × (lines ≡ prefix ++ [] ∷ []))

-- Lines end blank if they do with others before them.
later_blanks : (these lines : List (List ℕ)) → EndsBlank (these ++ lines) → EndsBlank lines
later_blanks [] lines h = h
later_blanks (x ∷ these) lines h = later_blanks these lines (later_blank x (these ++ lines) h)

-- Lines that end blank, followed by others that do, end blank.
blank_append : (a b : List (List ℕ)) → EndsBlank a → EndsBlank b → EndsBlank (a ++ b)
blank_append a b h (inr some) = inr (a ++ some.0, ap (λ l. a ++ l) some.1 ∙ sym (append_assoc a some.0 ([] ∷ [])))
blank_append a b (inl none) (inl e) = inl (ap (λ l. l ++ b) none ∙ e)
blank_append a b (inr some) (inl e) = inr (some.0, ap (λ l. a ++ l) e ∙ append-nil a ∙ some.1)

-- Lines that begin with an empty one begin so with further lines after them.
begins_blank : (lines more : List (List ℕ)) → lines ≢ [] → BeginsBlank lines → BeginsBlank (lines ++ more)
begins_blank [] more n h = absurd (n refl)
begins_blank ([] ∷ lines) more n h = tt
begins_blank ((b ∷ line) ∷ lines) more n h = h

-- After a stretch of full lines, lines that make all end blank are at least one.
some_after : (these lines : List (List ℕ)) → these ≢ [] → AreFullLines these → EndsBlank (these ++ lines) → lines ≢ []
some_after these lines n full h e =
    let alone : EndsBlank these = subst EndsBlank (ap (λ l. these ++ l) e ∙ append-nil these) h in
    n (blank_is_none these alone (full_some these full))

-- The records of lines that end blank, followed by those of further lines, are the records of all.
pub records_append : (l m : List (List ℕ)) (r s : List (List (List ℕ))) → AreRecords l r → EndsBlank l →
    AreRecords m s → AreRecords (l ++ m) (r ++ s)
records_append _ m _ s no_line h k = k
records_append _ m _ s (empty_line lines records g) h k =
    empty_line (lines ++ m) (records ++ s) (records_append lines m records s g (later_blank [] lines h) k)
records_append _ m _ s (longest_stretch these lines records n f b g) h k =
    subst (λ l. AreRecords l (these ∷ (records ++ s))) (sym (append_assoc these lines m))
    (longest_stretch these (lines ++ m) (records ++ s) n f (begins_blank lines m (some_after these lines n f h) b)
    (records_append lines m records s g (later_blanks these lines h) k))

-- What holds of all lines holds of the first ones.
pub all_prefix : (P : List ℕ → Type 0) (a b : List (List ℕ)) → AllByRecursion P (a ++ b) → AllByRecursion P a
all_prefix P [] b h = tt
all_prefix P (x ∷ a) b h = (h.0, all_prefix P a b h.1)

-- What holds of all lines holds of the later ones.
pub all_back : (P : List ℕ → Type 0) (a b : List (List ℕ)) → AllByRecursion P (a ++ b) → AllByRecursion P b
all_back P [] b h = h
all_back P (x ∷ a) b h = all_back P a b h.1

-- ---- a text that goes on

-- The meanings of records that are closed before a text come before those of the text.
closed_before : (text : List ℕ) (before : List (List ℕ)) (records : List (List (List ℕ)))
    (meanings : List RecordMeaning) (new : RecordFacts)
    → AllByRecursion HasNoLf before → EndsBlank before → AreRecords before records → AreRecordsOfText text meanings new
    → AreRecordsOfText (ended_lines before ++ text) (map record_of records ++ meanings) new
closed_before text before records meanings new no_lf blank are t = record {
  lines = before ++ t.lines;
  rest = t.rest;
  split = split_lines before t.lines text t.rest no_lf t.split;
  before = before ++ t.before;
  after = t.after;
  last_blank = record {
    whole = ap (λ l. before ++ l) t.last_blank.whole ∙ sym (append_assoc before t.before t.after);
    full = t.last_blank.full;
    blank = blank_append before t.before blank t.last_blank.blank;
  };
  records = records ++ t.records;
  are_records = records_append before t.before records t.records are blank t.are_records;
  meanings_are = ap (λ l. map record_of records ++ l) t.meanings_are ∙ sym (map-append record_of records t.records);
  left = t.left;
}

-- A text is its closed part, followed by what stands open.
closed_part : (text : List ℕ) (meanings : List RecordMeaning) (new : RecordFacts) →
    (t : AreRecordsOfText text meanings new)
    → text ≡ ended_lines t.before ++ (ended_lines t.after ++ t.rest)
closed_part text meanings new t =
    t.split.whole ∙ ap (λ l. ended_lines l ++ t.rest) t.last_blank.whole
    ∙ ap (λ l. l ++ t.rest) (flat_map-append (λ l. l ++ lf ∷ []) t.before t.after)
    ∙ append_assoc (ended_lines t.before) (ended_lines t.after) t.rest

-- The lines of the closed part of a text have no LF.
before_no_lf : (text : List ℕ) (meanings : List RecordMeaning) (new : RecordFacts) →
    (t : AreRecordsOfText text meanings new) → AllByRecursion HasNoLf t.before
before_no_lf text meanings new t =
    all_prefix HasNoLf t.before t.after (subst (AllByRecursion HasNoLf) t.last_blank.whole t.split.lines_no_lf)

-- The lines after the closed part of a text have no LF.
after_no_lf : (text : List ℕ) (meanings : List RecordMeaning) (new : RecordFacts) →
    (t : AreRecordsOfText text meanings new) → AllByRecursion HasNoLf t.after
after_no_lf text meanings new t =
    all_back HasNoLf t.before t.after (subst (AllByRecursion HasNoLf) t.last_blank.whole t.split.lines_no_lf)

-- A text that goes on has the meanings so far, followed by those of what then stands after its closed part.
pub records_after : (text piece : List ℕ) (meanings more : List RecordMeaning) (old new : RecordFacts) →
    (t : AreRecordsOfText text meanings old)
    → AreRecordsOfText ((ended_lines t.after ++ t.rest) ++ piece) more new →
    AreRecordsOfText (text ++ piece) (meanings ++ more) new
records_after text piece meanings more old new t later =
    let all =
    closed_before ((ended_lines t.after ++ t.rest) ++ piece) t.before t.records more new
    (before_no_lf text meanings old t) t.last_blank.blank t.are_records later in
    let text_is : ended_lines t.before ++ ((ended_lines t.after ++ t.rest) ++ piece) ≡ text ++ piece =
    sym (append_assoc (ended_lines t.before) (ended_lines t.after ++ t.rest) piece)
    ∙ ap (λ l. l ++ piece) (sym (closed_part text meanings old t)) in
    subst (λ a. AreRecordsOfText (text ++ piece) (a ++ more) new) (sym t.meanings_are)
    (subst (λ l. AreRecordsOfText l (map record_of t.records ++ more) new) text_is all)

-- A text that goes on in pieces has the meanings so far, followed by those of the pieces.
pub records_go_on : (text : List ℕ) (meanings more : List RecordMeaning) (old new : RecordFacts)
    (pieces : List (List ℕ))
    → AreRecordsOfText text meanings old → AreRecordsFed old pieces more new →
    AreRecordsOfText (text ++ concat pieces) (meanings ++ more) new
records_go_on text meanings more old new pieces t fed =
    records_after text (concat pieces) meanings more old new t
    (fed_after (ended_lines t.after ++ t.rest) old new pieces more fed t.left)

-- A piece that closes no record gives a text no further meaning.
pub records_stay_open : (text : List ℕ) (meanings : List RecordMeaning) (old new : RecordFacts) (piece : List ℕ)
    (taken : ℕ)
    → AreRecordsOfText text meanings old → LeavesRecordOpen old piece taken new →
    AreRecordsOfText (text ++ piece) (meanings ++ []) new
records_stay_open text meanings old new piece taken t now =
    subst (λ l. AreRecordsOfText (text ++ l) (meanings ++ []) new) (append-nil piece)
    (records_go_on text meanings [] old new (piece ∷ []) t
    (leaves_open old new new piece taken [] [] now (no_piece new)))

-- The empty piece closes no record and changes nothing.
nothing_more : (facts : RecordFacts) → AreRecordsFed facts ([] ∷ []) [] facts
nothing_more facts = leaves_open facts facts facts [] 0 [] []
    (record { whole = refl; grown = λ text known. subst (λ l. AreRecordFacts l facts) (sym (append-nil text)) known })
    (no_piece facts)

-- A piece that closes a record with its last byte gives a text that record's meaning.
pub record_is_closed : (text : List ℕ) (meanings : List RecordMeaning) (old new : RecordFacts) (piece : List ℕ)
    (taken : ℕ) (meaning : RecordMeaning)
    → AreRecordsOfText text meanings old → ClosesRecord old piece taken meaning new → drop taken piece ≡ [] →
    AreRecordsOfText (text ++ piece) (meanings ++ meaning ∷ []) new
record_is_closed text meanings old new piece taken meaning t now all =
    let rest = subst (λ l. AreRecordsFed new (l ∷ []) [] new) (sym all) (nothing_more new) in
    subst (λ l. AreRecordsOfText (text ++ l) (meanings ++ meaning ∷ []) new) (append-nil piece)
    (records_go_on text meanings (meaning ∷ []) old new (piece ∷ []) t
    (closes old new new piece taken meaning [] [] now rest))

-- ---- a text that ends

-- Lines that aren't empty and have no LF are full.
pub full_of : (lines : List (List ℕ)) → AllByRecursion (λ l. l ≢ []) lines → AllByRecursion HasNoLf lines →
    AreFullLines lines
full_of [] h k = tt
full_of (x ∷ lines) h k = ((h.0, k.0), full_of lines h.1 k.1)

-- The lines after the closed part of a text are full.
full_after : (text : List ℕ) (meanings : List RecordMeaning) (new : RecordFacts) →
    (t : AreRecordsOfText text meanings new) → AreFullLines t.after
full_after text meanings new t = full_of t.after t.last_blank.full (after_no_lf text meanings new t)

-- Full lines and a rest without LF that are LFs alone are no lines and no rest.
nothing_open : (after : List (List ℕ)) (rest : List ℕ) → AreFullLines after → HasNoLf rest →
    AreLfs (ended_lines after ++ rest) → (after ≡ []) × (rest ≡ [])
nothing_open [] [] f r h = (refl, refl)
nothing_open [] (b ∷ rest) f r h = absurd (r.0 h.0)
nothing_open ([] ∷ after) rest f r h = absurd (f.0.0 refl)
nothing_open ((b ∷ line) ∷ after) rest f r h = absurd (f.0.1.0 h.0)

-- Full lines and the line that the end closes are full.
full_last : (lines : List (List ℕ)) (rest : List ℕ) → AreFullLines lines → HasNoLf rest →
    AreFullLines (lines ++ last_line rest)
full_last [] [] f r = tt
full_last [] (b ∷ rest) f r = ((λ e. cc, r), tt)
full_last (x ∷ lines) rest f r = (f.0, full_last lines rest f.1 r)

-- The lines of a text, with the one that its end closes, are those of its closed part and those after it.
lines_last : (lines before after : List (List ℕ)) (rest : List ℕ) → lines ≡ before ++ after →
    lines ++ last_line rest ≡ before ++ (after ++ last_line rest)
lines_last lines before after rest e = ap (λ l. l ++ last_line rest) e ∙ append_assoc before after (last_line rest)

-- Where no record stands open at the end of a text, its records are the closed ones.
pub all_closed : (text : List ℕ) (meanings : List RecordMeaning) (facts : RecordFacts) →
    (t : AreRecordsOfText text meanings facts)
    → ((u : List ℕ) → AreRecordFacts u facts → AreLfs u) → AreRecords (t.lines ++ last_line t.rest) t.records
all_closed text meanings facts t none =
    let empty =
    nothing_open t.after t.rest (full_after text meanings facts t) t.split.rest_no_lf
    (none (ended_lines t.after ++ t.rest) t.left) in
    let lines : t.lines ++ last_line t.rest ≡ t.before =
    lines_last t.lines t.before t.after t.rest t.last_blank.whole
    ∙ ap (λ l. t.before ++ (l ++ last_line t.rest)) empty.0 ∙ ap (λ l. t.before ++ last_line l) empty.1
    ∙ append-nil t.before in
    subst (λ l. AreRecords l t.records) (sym lines) t.are_records

-- Where a record stands open at the end of a text, it is the last one.
pub last_closed : (text : List ℕ) (meanings : List RecordMeaning) (facts : RecordFacts) (meaning : RecordMeaning) →
    (t : AreRecordsOfText text meanings facts)
    → ((u : List ℕ) → AreRecordFacts u facts → LastRecordMeans u meaning)
    → AreRecords (t.lines ++ last_line t.rest) (t.records ++ (t.after ++ last_line t.rest) ∷ [])
    × (meaning ≡ record_of (t.after ++ last_line t.rest))
last_closed text meanings facts meaning t last =
    let full = full_after text meanings facts t in
    let end = last (ended_lines t.after ++ t.rest) t.left in
    let o = end.open_record in
    let here : IsSplit (ended_lines t.after ++ t.rest) t.after t.rest =
    record { whole = refl; lines_no_lf = after_no_lf text meanings facts t; rest_no_lf = t.split.rest_no_lf } in
    let same =
    split_unique _ t.after (ended_lines t.after ++ t.rest) end.rest t.rest
    (split_open (ended_lines t.after ++ t.rest) end.lines end.rest o) here in
    let lines = after_blank_prefix o.blank end.lines t.after o.full full same.0 in
    let these : end.lines ++ last_line end.rest ≡ t.after ++ last_line t.rest =
    ap (λ l. l ++ last_line end.rest) lines ∙ ap (λ r. t.after ++ last_line r) same.1 in
    let open_lines = t.after ++ last_line t.rest in
    let some : open_lines ≢ [] = subst (λ l. l ≢ []) these end.some in
    let one : AreRecords open_lines (open_lines ∷ []) =
    subst (λ l. AreRecords l (open_lines ∷ [])) (append-nil open_lines)
    (longest_stretch open_lines [] [] some (full_last t.after t.rest full t.split.rest_no_lf) tt no_line) in (
      subst (λ l. AreRecords l (t.records ++ open_lines ∷ []))
          (sym (lines_last t.lines t.before t.after t.rest t.last_blank.whole))
          (records_append t.before open_lines t.records (open_lines ∷ []) t.are_records t.last_blank.blank one),
      end.meaning_is ∙ ap record_of these,
    )
