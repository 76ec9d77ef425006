-- Each text is split into lines, and lines into records.
use Rattle.std.proofs.Common.{◌≡◌, ◌≢◌, ◌⊎◌, ◌∙◌, ℕ, List, [], ◌∷◌, ◌++◌, inl, inr, refl, ap}
use Rattle.std.specs.List.{AllByRecursion}
use Rattle.std.proofs.lemmas.Bool.{cases_eq}
use Rattle.dm_text.specs.Texts.{lf, HasNoLf, IsSplit}
use Rattle.dm_text.specs.Records.{AreRecords, empty_line, longest_stretch, no_line}
use Rattle.dm_text.specs.RecordFeeds.{IsLastBlank}

-- ---- lines

-- The text is split into lines and a rest.
pub record HasLines (text : List ℕ) : Type 0 where
  pub lines : List (List ℕ)
  pub rest : List ℕ
  pub split : IsSplit text lines rest

-- A split text with one byte before it that isn't LF is split too.
byte_before : (b : ℕ) (text : List ℕ) → b ≢ lf → (lines : List (List ℕ)) (rest : List ℕ) → IsSplit text lines rest →
    HasLines (b ∷ text)
byte_before b text other [] rest s = record {
  lines = [];
  rest = b ∷ rest;
  split = record { whole = ap (λ l. b ∷ l) s.whole; lines_no_lf = tt; rest_no_lf = (other, s.rest_no_lf) };
}
byte_before b text other (line ∷ lines) rest s = record {
  lines = (b ∷ line) ∷ lines;
  rest = rest;
  split =
      record {
        whole = ap (λ l. b ∷ l) s.whole;
        lines_no_lf = ((other, s.lines_no_lf.0), s.lines_no_lf.1);
        rest_no_lf =
            s.rest_no_lf;
      };
}

-- Each text is split into lines and a rest.
pub text_is_split : (text : List ℕ) → HasLines text
text_is_split [] = record { lines = []; rest = []; split = record { whole = refl; lines_no_lf = tt; rest_no_lf = tt } }
text_is_split (b ∷ text) =
    let later = text_is_split text in
    elim (cases_eq b lf) [
      | inl e ↦ record {
        lines = [] ∷ later.lines;
        rest = later.rest;
        split =
            record {
              whole = ap (λ x. x ∷ text) e ∙ ap (λ l. lf ∷ l) later.split.whole;
              lines_no_lf =
                  (tt, later.split.lines_no_lf);
              rest_no_lf = later.split.rest_no_lf;
            };
      }
      | inr other ↦ byte_before b text other later.lines later.rest later.split
    ]

-- ---- records

-- Lines with a full line before them have their records, if the lines alone have.
line_before : (line : List ℕ) (lines : List (List ℕ)) (records : List (List (List ℕ))) → line ≢ [] → HasNoLf line →
    AreRecords lines records
    → (more : List (List (List ℕ))) × AreRecords (line ∷ lines) more
line_before line _ _ some free no_line =
    ((line ∷ []) ∷ [], longest_stretch (line ∷ []) [] [] (λ e. cc) ((some, free), tt) tt no_line)
line_before line _ _ some free (empty_line lines records h) = (
  (line ∷ []) ∷ records,
  longest_stretch (line ∷ []) ([] ∷ lines) records (λ e. cc) ((some, free), tt) tt
      (empty_line lines records h),
)
line_before line _ _ some free (longest_stretch these lines records n full blank h) =
    ((line ∷ these) ∷ records, longest_stretch (line ∷ these) lines records (λ e. cc) ((some, free), full) blank h)

-- Lines without LF have their records.
pub records_are_there : (lines : List (List ℕ)) → AllByRecursion HasNoLf lines →
    (records : List (List (List ℕ))) × AreRecords lines records
records_are_there [] free = ([], no_line)
records_are_there ([] ∷ lines) free =
    let later = records_are_there lines free.1 in
    (later.0, empty_line lines later.0 later.1)
records_are_there ((b ∷ line) ∷ lines) free =
    let later = records_are_there lines free.1 in
    line_before (b ∷ line) lines later.0 (λ e. cc) free.0 later.1

-- ---- the last empty line

-- The lines are cut after the last empty one, or before all of them.
pub record HasLastBlank (lines : List (List ℕ)) : Type 0 where
  pub before : List (List ℕ)
  pub after : List (List ℕ)
  pub is : IsLastBlank lines before after

-- Lines that are cut after the last empty one can be cut so, too, with one line before them.
blank_or_full : (line : List ℕ) (lines before after : List (List ℕ)) → IsLastBlank lines before after →
    HasLastBlank (line ∷ lines)
blank_or_full [] lines [] after h = record {
  before = [] ∷ [];
  after = after;
  is = record { whole = ap (λ l. [] ∷ l) h.whole; full = h.full; blank = inr ([], refl) };
}
blank_or_full (b ∷ line) lines [] after h = record {
  before = [];
  after = (b ∷ line) ∷ after;
  is = record { whole = ap (λ l. (b ∷ line) ∷ l) h.whole; full = ((λ e. cc), h.full); blank = inl refl };
}
blank_or_full line lines (x ∷ before) after h = record {
  before = line ∷ x ∷ before;
  after = after;
  is = record { whole = ap (λ l. line ∷ l) h.whole; full = h.full; blank = inr (later h.blank) };
}
  where
    later : ((x ∷ before) ≡ []) ⊎ ((prefix : List (List ℕ)) × (x ∷ before ≡ prefix ++ [] ∷ [])) →
        (prefix : List (List ℕ)) × (line ∷ x ∷ before ≡ prefix ++ [] ∷ [])
    later (inl e) = cc
    later (inr some) = (line ∷ some.0, ap (λ l. line ∷ l) some.1)

-- Lines have a last empty one, or none of them is empty.
pub last_blank_is_there : (lines : List (List ℕ)) → HasLastBlank lines
last_blank_is_there [] = record { before = []; after = []; is = record { whole = refl; full = tt; blank = inl refl } }
last_blank_is_there (line ∷ lines) =
    let later = last_blank_is_there lines in
    blank_or_full line lines later.before later.after later.is
