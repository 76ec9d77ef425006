-- How a text is cut into pieces changes nothing for its records.
use Rattle.std.proofs.Common.{◌≡◌, ◌≢◌, ◌∙◌, ◌⊎◌, ℕ, List, [], ◌∷◌, ◌++◌, refl, sym, ap, subst, append_assoc}
use Rattle.std.proofs.Common.{append-nil, map, take, drop, inl, inr}
use Rattle.std.specs.List.{AllByRecursion, concat}
use Rattle.std.proofs.lemmas.List.{take-append-drop}
use Rattle.dm_text.specs.Texts.{lf, HasNoLf, ended_lines, IsSplit}
use Rattle.dm_text.specs.Records.{AreLfs, AreFullLines, AreRecords, BeginsBlank, IsClosedRecord, IsOpenRecord}
use Rattle.dm_text.specs.Records.{empty_line, longest_stretch, no_line, record_of}
use Rattle.dm_text.specs.RecordFacts.{RecordFacts, AreRecordFacts, facts_of_record}
use Rattle.dm_text.specs.RecordFeeds.{RecordMeaning, AreRecordsFed, no_piece, leaves_open, closes, AreRecordsOfText}
use Rattle.dm_text.proofs.Texts.{split_more, split_unique}

-- ---- empty lines

-- Each LF is an empty line.
pub blanks : List ℕ → List (List ℕ)
blanks [] = []
blanks (b ∷ bytes) = [] ∷ blanks bytes

-- Bytes that are all LF are their empty lines, each ended by LF.
blanks_are : (bytes : List ℕ) → AreLfs bytes → bytes ≡ ended_lines (blanks bytes)
unfolding blanks
blanks_are [] h = refl
blanks_are (b ∷ bytes) h = ap (λ k. k ∷ bytes) h.0 ∙ ap (λ l. lf ∷ l) (blanks_are bytes h.1)

-- Empty lines have no LF.
blanks_no_lf : (bytes : List ℕ) → AllByRecursion HasNoLf (blanks bytes)
unfolding blanks
blanks_no_lf [] = tt
blanks_no_lf (b ∷ bytes) = (tt, blanks_no_lf bytes)

-- Empty lines before other lines add no records.
pub after_blanks : (bytes : List ℕ) (lines : List (List ℕ)) (records : List (List (List ℕ))) →
    AreRecords lines records → AreRecords (blanks bytes ++ lines) records
unfolding blanks
after_blanks [] lines records h = h
after_blanks (b ∷ bytes) lines records h =
    empty_line (blanks bytes ++ lines) records (after_blanks bytes lines records h)

-- Full lines have no LF.
pub full_no_lf : (lines : List (List ℕ)) → AreFullLines lines → AllByRecursion HasNoLf lines
full_no_lf [] h = tt
full_no_lf (l ∷ lines) h = (h.0.1, full_no_lf lines h.1)

-- Full lines are not empty.
pub full_some : (lines : List (List ℕ)) → AreFullLines lines → AllByRecursion (λ l. l ≢ []) lines
full_some [] h = tt
full_some (l ∷ lines) h = (h.0.0, full_some lines h.1)

-- Lines before a split text are the first of its lines.
pub split_lines : (lines more : List (List ℕ)) (text rest : List ℕ) → AllByRecursion HasNoLf lines →
    IsSplit text more rest → IsSplit (ended_lines lines ++ text) (lines ++ more) rest
split_lines [] more text rest h s = s
split_lines (l ∷ lines) more text rest h s =
    subst (λ t. IsSplit t (l ∷ (lines ++ more)) rest)
    (sym (append_assoc (l ++ lf ∷ []) (ended_lines lines) text
    ∙ append_assoc l (lf ∷ []) (ended_lines lines ++ text)))
    (split_more l (ended_lines lines ++ text) (lines ++ more) rest h.0 (split_lines lines more text rest h.1 s))

-- Bytes without LF are split into no lines and themselves as the rest.
rest_alone : (rest : List ℕ) → HasNoLf rest → IsSplit rest [] rest
rest_alone rest h = record { whole = refl; lines_no_lf = tt; rest_no_lf = h }

-- A text in which a record stands open is split into empty lines, the lines of the record, and the rest.
pub split_open : (text : List ℕ) (lines : List (List ℕ)) (rest : List ℕ) → (o : IsOpenRecord text lines rest) →
    IsSplit text (blanks o.blank ++ lines) rest
split_open text lines rest o =
    let inner = split_lines lines [] rest rest (full_no_lf lines o.full) (rest_alone rest o.rest_no_lf) in
    let outer =
    split_lines (blanks o.blank) (lines ++ []) (ended_lines lines ++ rest) rest (blanks_no_lf o.blank) inner in
    subst (λ t. IsSplit t (blanks o.blank ++ lines) rest)
    (ap (λ l. l ++ (ended_lines lines ++ rest)) (sym (blanks_are o.blank o.are_lfs)) ∙ sym o.whole)
    (subst (λ l. IsSplit (ended_lines (blanks o.blank) ++ (ended_lines lines ++ rest)) (blanks o.blank ++ l) rest)
    (append-nil lines) outer)

-- Empty lines are none, or an empty one is the last.
ends_blank : (bytes : List ℕ) → (blanks bytes ≡ []) ⊎ ((prefix : List (List ℕ)) × (blanks bytes ≡ prefix ++ [] ∷ []))
unfolding blanks
ends_blank [] = inl refl
ends_blank (b ∷ bytes) = elim (ends_blank bytes) [
  | inl none ↦ inr ([], ap (λ l. [] ∷ l) none)
  | inr some ↦ inr ([] ∷ some.0, ap (λ l. [] ∷ l) some.1)
]

-- ---- pieces

-- A text that closes no record has no meanings.
pub open_text : (text : List ℕ) (new : RecordFacts) → AreRecordFacts text new → AreRecordsOfText text [] new
open_text text new known =
    let o = known.open_record in
    record {
      lines = blanks o.blank ++ known.lines;
      rest = known.rest;
      split = split_open text known.lines known.rest o;
      before = blanks o.blank;
      after = known.lines;
      last_blank = record { whole = refl; full = full_some known.lines o.full; blank = ends_blank o.blank };
      records = [];
      are_records = subst (λ l. AreRecords l []) (append-nil (blanks o.blank)) (after_blanks o.blank [] [] no_line);
      meanings_are = refl;
      left = record {
        lines = known.lines;
        rest = known.rest;
        open_record = record { blank = []; are_lfs = tt; whole = refl; full = o.full; rest_no_lf = o.rest_no_lf };
        facts_are = known.facts_are;
      };
    }

-- Lines that end blank still do with others and an empty one before them.
ends_later : (prefix before : List (List ℕ)) → (before ≡ []) ⊎ ((f : List (List ℕ)) × (before ≡ f ++ [] ∷ []))
    → ((prefix ++ [] ∷ before) ≡ []) ⊎ ((f : List (List ℕ)) × (prefix ++ [] ∷ before ≡ f ++ [] ∷ []))
ends_later prefix before (inl none) = inr (prefix, ap (λ l. prefix ++ [] ∷ l) none)
ends_later prefix before (inr some) =
    inr (prefix ++ [] ∷ some.0, ap (λ l. prefix ++ [] ∷ l) some.1 ∙ sym (append_assoc prefix ([] ∷ some.0) ([] ∷ [])))

-- The meaning of a record that is closed before the rest of a text comes before those of that rest.
closed_before : (text later : List ℕ) (lines : List (List ℕ)) (meanings : List RecordMeaning) (new : RecordFacts) →
    IsClosedRecord text lines
    → AreRecordsOfText later meanings new → AreRecordsOfText (text ++ later) (record_of lines ∷ meanings) new
closed_before text later lines meanings new c t =
    let all = blanks c.blank ++ (lines ++ [] ∷ t.lines) in
    let one : IsSplit (lf ∷ later) ([] ∷ t.lines) t.rest = split_more [] later t.lines t.rest tt t.split in
    let two = split_lines lines ([] ∷ t.lines) (lf ∷ later) t.rest (full_no_lf lines c.full) one in
    let three =
    split_lines (blanks c.blank) (lines ++ [] ∷ t.lines) (ended_lines lines ++ lf ∷ later) t.rest
    (blanks_no_lf c.blank) two in
    let text_is : ended_lines (blanks c.blank) ++ (ended_lines lines ++ lf ∷ later) ≡ text ++ later =
    ap (λ l. l ++ (ended_lines lines ++ lf ∷ later)) (sym (blanks_are c.blank c.are_lfs))
    ∙ ap (λ l. c.blank ++ l) (sym (append_assoc (ended_lines lines) (lf ∷ []) later))
    ∙ sym (append_assoc c.blank (ended_lines lines ++ lf ∷ []) later) ∙ ap (λ l. l ++ later) (sym c.whole) in
    record {
      lines = all;
      rest = t.rest;
      split = subst (λ l. IsSplit l all t.rest) text_is three;
      before = blanks c.blank ++ (lines ++ [] ∷ t.before);
      after = t.after;
      last_blank = record {
        whole =
            ap (λ l. blanks c.blank ++ (lines ++ [] ∷ l)) t.last_blank.whole
            ∙ ap (λ l. blanks c.blank ++ l) (sym (append_assoc lines ([] ∷ t.before) t.after))
            ∙ sym (append_assoc (blanks c.blank) (lines ++ [] ∷ t.before) t.after);
        full = t.last_blank.full;
        blank =
            subst (λ l. (l ≡ []) ⊎ ((f : List (List ℕ)) × (l ≡ f ++ [] ∷ [])))
            (append_assoc (blanks c.blank) lines ([] ∷ t.before))
            (ends_later (blanks c.blank ++ lines) t.before t.last_blank.blank);
      };
      records = lines ∷ t.records;
      are_records = after_blanks c.blank (lines ++ [] ∷ t.before) (lines ∷ t.records)
          (longest_stretch lines ([] ∷ t.before) t.records c.some c.full tt
          (empty_line t.before t.records t.are_records));
      meanings_are = ap (λ l. record_of lines ∷ l) t.meanings_are;
      left = t.left;
    }

-- Pieces that are fed while a record stands open close, and leave open, what its text does with their bytes after it.
pub fed_after : (u : List ℕ) (old new : RecordFacts) (pieces : List (List ℕ)) (meanings : List RecordMeaning) →
    AreRecordsFed old pieces meanings new
    → AreRecordFacts u old → AreRecordsOfText (u ++ concat pieces) meanings new
fed_after u old new pieces meanings (no_piece facts) known =
    subst (λ l. AreRecordsOfText l [] facts) (sym (append-nil u)) (open_text u facts known)
fed_after u old new pieces meanings (leaves_open _ mid _ piece taken more _ now later) known =
    subst (λ l. AreRecordsOfText l meanings new) (append_assoc u piece (concat more))
    (fed_after (u ++ piece) mid new more meanings later (now.grown u known))
fed_after u old new pieces meanings (closes _ mid _ piece taken meaning more others now later) known =
    let rest = fed_after [] mid new (drop taken piece ∷ more) others later now.empty in
    let done = now.means u known in
    let all =
    closed_before (u ++ take taken piece) (drop taken piece ++ concat more) done.lines others new done.closed
    rest in
    let text : (u ++ take taken piece) ++ (drop taken piece ++ concat more) ≡ u ++ (piece ++ concat more) =
    append_assoc u (take taken piece) (drop taken piece ++ concat more)
    ∙ ap (λ l. u ++ l) (sym (append_assoc (take taken piece) (drop taken piece) (concat more))
    ∙ ap (λ l. l ++ concat more) (take-append-drop taken piece)) in
    subst (λ a. AreRecordsOfText (u ++ (piece ++ concat more)) (a ∷ others) new) (sym done.meaning_is)
    (subst (λ l. AreRecordsOfText l (record_of done.lines ∷ others) new) text all)

-- Pieces close, and leave open, what their joined text does.
pub fed_is_text : (pieces : List (List ℕ)) (meanings : List RecordMeaning) (old new : RecordFacts) →
    AreRecordFacts [] old → AreRecordsFed old pieces meanings new
    → AreRecordsOfText (concat pieces) meanings new
fed_is_text pieces meanings old new known fed = fed_after [] old new pieces meanings fed known

-- ---- a text has its records in one way

-- Lines of which the last is empty are not all non-empty.
tail_blank : (prefix : List (List ℕ)) → AllByRecursion (λ l. l ≢ []) (prefix ++ [] ∷ []) → ⊥
tail_blank [] h = h.0 refl
tail_blank (x ∷ prefix) h = tail_blank prefix h.1

-- Lines that end blank, none of which is empty, are none.
pub blank_is_none : (a : List (List ℕ)) → (a ≡ []) ⊎ ((f : List (List ℕ)) × (a ≡ f ++ [] ∷ [])) →
    AllByRecursion (λ l. l ≢ []) a → a ≡ []
blank_is_none a (inl e) h = e
blank_is_none a (inr s) h = absurd (tail_blank s.0 (subst (AllByRecursion (λ l. l ≢ [])) s.1 h))

-- Lines that end blank still do without the first of them.
pub later_blank : (x : List ℕ) (a : List (List ℕ)) → ((x ∷ a) ≡ []) ⊎ ((f : List (List ℕ)) × (x ∷ a ≡ f ++ [] ∷ [])) →
    (a ≡ []) ⊎ ((f : List (List ℕ)) × (a ≡ f ++ [] ∷ []))
later_blank x a (inl e) = let n : x ∷ a ≡ [] = e in cc
later_blank x a (inr ([], e)) = let n : a ≡ [] = cc in inl n
later_blank x a (inr (y ∷ f, e)) = let n : a ≡ f ++ [] ∷ [] = cc in inr (f, n)

-- Where no line is empty, none at the start is.
prefix_full : (c d : List (List ℕ)) → AllByRecursion (λ l. l ≢ []) (c ++ d) → AllByRecursion (λ l. l ≢ []) c
prefix_full [] d h = tt
prefix_full (x ∷ c) d h = (h.0, prefix_full c d h.1)

-- Where no line is empty, a prefix that is empty or ends with an empty line is empty.
prefix_blank : (c d b : List (List ℕ)) → c ++ d ≡ b → AllByRecursion (λ l. l ≢ []) b →
    (c ≡ []) ⊎ ((f : List (List ℕ)) × (c ≡ f ++ [] ∷ [])) → c ≡ []
prefix_blank c d b e h hc = blank_is_none c hc (prefix_full c d (subst (AllByRecursion (λ l. l ≢ [])) (sym e) h))

-- Lines are cut after their last empty one in only one way.
pub last_blank_unique : (a b c d : List (List ℕ)) → a ++ b ≡ c ++ d → AllByRecursion (λ l. l ≢ []) b →
    AllByRecursion (λ l. l ≢ []) d
    → (a ≡ []) ⊎ ((f : List (List ℕ)) × (a ≡ f ++ [] ∷ [])) → (c ≡ []) ⊎ ((f : List (List ℕ)) × (c ≡ f ++ [] ∷ [])) →
    (a ≡ c) × (b ≡ d)
last_blank_unique [] b [] d e hb hd ha hc = (refl, e)
last_blank_unique [] b (y ∷ c) d e hb hd ha hc = let n = prefix_blank (y ∷ c) d b (sym e) hb hc in cc
last_blank_unique (x ∷ a) b [] d e hb hd ha hc = let n = prefix_blank (x ∷ a) b d e hd ha in cc
last_blank_unique (x ∷ a) b (y ∷ c) d e hb hd ha hc =
    let head : x ≡ y = cc in
    let tail : a ++ b ≡ c ++ d = cc in
    let r = last_blank_unique a b c d tail hb hd (later_blank x a ha) (later_blank y c hc) in
    (ap (λ k. k ∷ a) head ∙ ap (λ l. y ∷ l) r.0, r.1)

-- Lines that begin blank don't begin with one that isn't empty.
full_first : (y : List ℕ) (b c : List (List ℕ)) → y ≢ [] → BeginsBlank b → b ≡ y ∷ c → ⊥
full_first y [] c n h e = cc
full_first y ([] ∷ b) c n h e = let k : [] ≡ y = cc in n (sym k)
full_first y ((x ∷ l) ∷ b) c n h e = h

-- Lines have only one longest stretch of full lines at their start.
run_unique : (a b c d : List (List ℕ)) → AreFullLines a → AreFullLines c → BeginsBlank b → BeginsBlank d →
    a ++ b ≡ c ++ d → (a ≡ c) × (b ≡ d)
run_unique [] b [] d ha hc hb hd e = (refl, e)
run_unique [] b (y ∷ c) d ha hc hb hd e = absurd (full_first y b (c ++ d) hc.0.0 hb e)
run_unique (x ∷ a) b [] d ha hc hb hd e = absurd (full_first x d (a ++ b) ha.0.0 hd (sym e))
run_unique (x ∷ a) b (y ∷ c) d ha hc hb hd e =
    let head : x ≡ y = cc in
    let tail : a ++ b ≡ c ++ d = cc in
    let r = run_unique a b c d ha.1 hc.1 hb hd tail in (ap (λ k. k ∷ a) head ∙ ap (λ l. y ∷ l) r.0, r.1)

-- Lines that begin with a full one don't begin with an empty one.
some_first : (a b c : List (List ℕ)) → a ≢ [] → AreFullLines a → a ++ b ≡ [] ∷ c → ⊥
some_first [] b c n h e = n refl
some_first (x ∷ a) b c n h e = let k : x ≡ [] = cc in h.0.0 k

-- Lines of which there are some at the start are not none.
pub none_first : (a b : List (List ℕ)) → a ≢ [] → a ++ b ≡ [] → ⊥
none_first [] b n e = n refl
none_first (x ∷ a) b n e = cc

-- Lines have their records in only one way.
pub records_unique : (l m : List (List ℕ)) (r s : List (List (List ℕ))) → AreRecords l r → AreRecords m s → l ≡ m →
    r ≡ s
records_unique _ _ _ _ no_line no_line e = refl
records_unique _ _ _ _ no_line (empty_line m s h) e = cc
records_unique _ _ _ _ no_line (longest_stretch c d s n f b h) e = absurd (none_first c d n (sym e))
records_unique _ _ _ _ (empty_line l r g) no_line e = cc
records_unique _ _ _ _ (empty_line l r g) (empty_line m s h) e = let tail : l ≡ m = cc in
    records_unique l m r s g h tail
records_unique _ _ _ _ (empty_line l r g) (longest_stretch c d s n f b h) e = absurd (some_first c d l n f (sym e))
records_unique _ _ _ _ (longest_stretch a l r n f b g) no_line e = absurd (none_first a l n e)
records_unique _ _ _ _ (longest_stretch a l r n f b g) (empty_line m s h) e = absurd (some_first a l m n f e)
records_unique _ _ _ _ (longest_stretch a l r n f b g) (longest_stretch c d s k i j h) e =
    let same = run_unique a l c d f i b j e in
    let rest = records_unique l d r s g h same.1 in
    ap (λ x. x ∷ r) same.0 ∙ ap (λ x. c ∷ x) rest

-- Full lines after empty ones are the same if all of the lines together are.
blank_prefix : (a b : List ℕ) (l m : List (List ℕ)) → AreFullLines l → AreFullLines m → blanks a ++ l ≡ blanks b ++ m →
    l ≡ m
unfolding blanks
blank_prefix [] [] l m h k e = e
blank_prefix [] (y ∷ b) [] m h k e = cc
blank_prefix [] (y ∷ b) (x ∷ l) m h k e = let n : x ≡ [] = cc in absurd (h.0.0 n)
blank_prefix (x ∷ a) [] l [] h k e = cc
blank_prefix (x ∷ a) [] l (y ∷ m) h k e = let n : y ≡ [] = cc in absurd (k.0.0 n)
blank_prefix (x ∷ a) (y ∷ b) l m h k e = let tail : blanks a ++ l ≡ blanks b ++ m = cc in blank_prefix a b l m h k tail

-- Where empty lines and full ones after them are together full, they are the full ones.
pub after_blank_prefix : (a : List ℕ) (l m : List (List ℕ)) → AreFullLines l → AreFullLines m → blanks a ++ l ≡ m →
    l ≡ m
unfolding blanks
after_blank_prefix a l m h k e = blank_prefix a [] l m h k e

-- A text has only one set of facts.
pub record_facts_unique : (text : List ℕ) (f g : RecordFacts) → AreRecordFacts text f → AreRecordFacts text g → f ≡ g
record_facts_unique text f g p q =
    let o = p.open_record in
    let v = q.open_record in
    let same =
    split_unique (blanks o.blank ++ p.lines) (blanks v.blank ++ q.lines) text p.rest q.rest
    (split_open text p.lines p.rest o) (split_open text q.lines q.rest v) in
    let lines = blank_prefix o.blank v.blank p.lines q.lines o.full v.full same.0 in
    p.facts_are ∙ ap (λ l. facts_of_record l p.rest) lines ∙ ap (facts_of_record q.lines) same.1 ∙ sym q.facts_are

-- A text has only one list of meanings, and leaves open only one thing.
of_text_unique : (text : List ℕ) (a b : List RecordMeaning) (f g : RecordFacts) → AreRecordsOfText text a f →
    AreRecordsOfText text b g → (a ≡ b) × (f ≡ g)
of_text_unique text a b f g p q =
    let same = split_unique p.lines q.lines text p.rest q.rest p.split q.split in
    let cut =
    last_blank_unique p.before p.after q.before q.after (sym p.last_blank.whole ∙ same.0 ∙ q.last_blank.whole)
    p.last_blank.full q.last_blank.full p.last_blank.blank q.last_blank.blank in
    let records = records_unique p.before q.before p.records q.records p.are_records q.are_records cut.0 in (
      p.meanings_are ∙ ap (map record_of) records ∙ sym q.meanings_are,
      record_facts_unique (ended_lines q.after ++ q.rest) f g
          (subst (λ l. AreRecordFacts l f) (ap (λ l. ended_lines l ++ p.rest) cut.1
          ∙ ap (λ r. ended_lines q.after ++ r) same.1) p.left) q.left,
    )

-- How a text is cut into pieces changes neither the meanings nor what is left open.
pub record_cuts : (pieces others : List (List ℕ)) (meanings theirs : List RecordMeaning) (old new end : RecordFacts) →
    AreRecordFacts [] old
    → concat pieces ≡ concat others → AreRecordsFed old pieces meanings new → AreRecordsFed old others theirs end →
    (meanings ≡ theirs) × (new ≡ end)
record_cuts pieces others meanings theirs old new end known same p q =
    of_text_unique (concat others) meanings theirs new end
    (subst (λ l. AreRecordsOfText l meanings new) same (fed_is_text pieces meanings old new known p))
    (fed_is_text others theirs old end known q)
