-- Texts in which a record stands open, as they grow.
use Rattle.std.proofs.Common.{◌≡◌, ◌≢◌, ◌∙◌, ℕ, true, false, List, [], ◌∷◌, ◌++◌, refl, sym, ap, subst, append_assoc}
use Rattle.std.proofs.Common.{append-nil}
use Rattle.std.proofs.lemmas.Grind.{flat_map-append}
use Rattle.dm_text.specs.Texts.{lf, HasNoLf, ended_lines}
use Rattle.dm_text.specs.Records.{AreLfs, AreFullLines, IsOpenRecord}
use Rattle.dm_text.specs.RecordFacts.{RecordFacts, AreRecordFacts, contents_of, facts_of_record}
use Rattle.dm_text.proofs.Texts.{no_lf_append}
use Rattle.dm_text.proofs.RecordSteps.{character_facts, character_is, end_is, end_step, no_lines, nothing_lines}

-- The empty text has the facts of no lines.
pub none_open : AreRecordFacts [] (facts_of_record [] [])
none_open = record {
  lines = [];
  rest = [];
  open_record = record { blank = []; are_lfs = tt; whole = refl; full = tt; rest_no_lf = tt };
  facts_are = refl;
}

-- A byte after a text comes after the last of its parts.
more_of : (text blank a rest : List ℕ) (b : ℕ) → text ≡ blank ++ (a ++ rest) →
    text ++ b ∷ [] ≡ blank ++ (a ++ (rest ++ b ∷ []))
more_of text blank a rest b e =
    ap (λ l. l ++ b ∷ []) e ∙ append_assoc blank (a ++ rest) (b ∷ [])
    ∙ ap (λ l. blank ++ l) (append_assoc a rest (b ∷ []))

-- A character that isn't LF makes the rest of the open record longer.
pub grown_character : (text : List ℕ) (f g : RecordFacts) (lines : List (List ℕ)) (rest : List ℕ) (b : ℕ) →
    AreRecordFacts text f → b ≢ lf
    → f ≡ facts_of_record lines rest → g ≡ facts_of_record lines (rest ++ b ∷ []) → AreRecordFacts (text ++ b ∷ []) g
grown_character text f g lines rest b known n e h =
    let old = known.open_record in
    record {
      lines = known.lines;
      rest = known.rest ++ b ∷ [];
      open_record = record {
        blank = old.blank;
        are_lfs = old.are_lfs;
        whole = more_of text old.blank (ended_lines known.lines) known.rest b old.whole;
        full = old.full;
        rest_no_lf = no_lf_append known.rest (b ∷ []) old.rest_no_lf (n, tt);
      };
      facts_are =
          h ∙ character_is lines rest b ∙ ap (λ k. character_facts k b) (sym e ∙ known.facts_are)
          ∙ sym (character_is known.lines known.rest b);
    }

-- Characters that aren't LF make the rest of the open record longer.
pub grown_characters : (text : List ℕ) (f g : RecordFacts) (lines : List (List ℕ)) (rest more : List ℕ) →
    AreRecordFacts text f → HasNoLf more
    → f ≡ facts_of_record lines rest → g ≡ facts_of_record lines (rest ++ more) → AreRecordFacts (text ++ more) g
grown_characters text f g lines rest [] known n e h =
    let same : f ≡ g = e ∙ ap (facts_of_record lines) (sym (append-nil rest)) ∙ sym h in
    subst (λ (k : RecordFacts). AreRecordFacts (text ++ []) k) same
    (subst (λ (l : List ℕ). AreRecordFacts l f) (sym (append-nil text)) known)
grown_characters text f g lines rest (b ∷ more) known n e h =
    let one = grown_character text f (facts_of_record lines (rest ++ b ∷ [])) lines rest b known n.0 e refl in
    subst (λ (l : List ℕ). AreRecordFacts l g) (append_assoc text (b ∷ []) more)
    (grown_characters (text ++ b ∷ []) (facts_of_record lines (rest ++ b ∷ [])) g lines (rest ++ b ∷ []) more one n.1
    refl
    (h ∙ ap (facts_of_record lines) (sym (append_assoc rest (b ∷ []) more))))

-- Lines and one more, each followed by LF, are the lines followed by LF and then that line followed by LF.
pub ended_more : (lines : List (List ℕ)) (line : List ℕ) →
    ended_lines (lines ++ line ∷ []) ≡ ended_lines lines ++ (line ++ lf ∷ [])
ended_more lines line =
    flat_map-append (λ l. l ++ lf ∷ []) lines (line ∷ [])
    ∙ ap (λ l. ended_lines lines ++ l) (append-nil (line ++ lf ∷ []))

-- Full lines and one more full line are full lines.
pub full_more : (lines : List (List ℕ)) (line : List ℕ) → AreFullLines lines → line ≢ [] → HasNoLf line →
    AreFullLines (lines ++ line ∷ [])
full_more [] line h n k = ((n, k), tt)
full_more (l ∷ lines) line h n k = (h.0, full_more lines line h.1 n k)

-- Full lines and further full lines are full lines.
pub full_joined : (lines more : List (List ℕ)) → AreFullLines lines → AreFullLines more → AreFullLines (lines ++ more)
full_joined [] more h k = k
full_joined (l ∷ lines) more h k = (h.0, full_joined lines more h.1 k)

-- An LF after a text whose facts are those of lines and a rest makes the rest a line.
by_rest : (text : List ℕ) (f g : RecordFacts) (lines : List (List ℕ)) (x : ℕ) (r : List ℕ) (theirs : List (List ℕ))
    (rest : List ℕ)
    → IsOpenRecord text theirs rest → f ≡ facts_of_record theirs rest → f ≡ facts_of_record lines (x ∷ r)
    → g ≡ facts_of_record (lines ++ (x ∷ r) ∷ []) [] → AreRecordFacts (text ++ lf ∷ []) g
by_rest text f g lines x r [] [] old known e h =
    let same : no_lines (contents_of lines (x ∷ r)) ≡ true = ap (λ k. no_lines k.contents) (sym e ∙ known) in
    let none = (nothing_lines lines (x ∷ r) same).1 in cc
by_rest text f g lines x r (l ∷ theirs) [] old known e h =
    let never : true ≡ false = ap (λ k. k.ended) (sym known ∙ e) in cc
by_rest text f g lines x r theirs (y ∷ s) old known e h = record {
  lines = theirs ++ (y ∷ s) ∷ [];
  rest = [];
  open_record = record {
    blank = old.blank;
    are_lfs = old.are_lfs;
    whole =
        more_of text old.blank (ended_lines theirs) (y ∷ s) lf old.whole
        ∙ ap (λ l. old.blank ++ l) (sym (ended_more theirs (y ∷ s))
        ∙ sym (append-nil (ended_lines (theirs ++ (y ∷ s) ∷ []))));
    full = full_more theirs (y ∷ s) old.full (λ k. cc) old.rest_no_lf;
    rest_no_lf = tt;
  };
  facts_are =
      h ∙ end_is lines x r ∙ ap (λ k. let f : RecordFacts = record { ended = true; contents = end_step k.contents } in
      f) (sym e ∙ known) ∙ sym (end_is theirs y s);
}

-- An LF after a line that is begun ends this line.
pub grown_end : (text : List ℕ) (f g : RecordFacts) (lines : List (List ℕ)) (x : ℕ) (r : List ℕ) → AreRecordFacts text f
    → f ≡ facts_of_record lines (x ∷ r) → g ≡ facts_of_record (lines ++ (x ∷ r) ∷ []) [] →
    AreRecordFacts (text ++ lf ∷ []) g
grown_end text f g lines x r known e h =
    by_rest text f g lines x r known.lines known.rest known.open_record known.facts_are e h

-- Full lines, each followed by LF, after a text whose open record has no rest are further lines of that record.
pub grown_lines : (text : List ℕ) (f : RecordFacts) (lines more : List (List ℕ)) → AreRecordFacts text f →
    f ≡ facts_of_record lines [] → AreFullLines more
    → AreRecordFacts (text ++ ended_lines more) (facts_of_record (lines ++ more) [])
grown_lines text f lines [] known e full =
    subst (λ (l : List ℕ). AreRecordFacts l (facts_of_record (lines ++ []) [])) (sym (append-nil text))
    (subst (λ (k : RecordFacts). AreRecordFacts text k) (e ∙ ap (λ l. facts_of_record l []) (sym (append-nil lines)))
    known)
grown_lines text f lines ([] ∷ more) known e full = absurd (full.0.0 refl)
grown_lines text f lines ((x ∷ r) ∷ more) known e full =
    let begun = grown_characters text f (facts_of_record lines (x ∷ r)) lines [] (x ∷ r) known full.0.1 e refl in
    let one =
    grown_end (text ++ x ∷ r) (facts_of_record lines (x ∷ r)) (facts_of_record (lines ++ (x ∷ r) ∷ []) []) lines x r
    begun refl refl in
    let others =
    grown_lines ((text ++ x ∷ r) ++ lf ∷ []) (facts_of_record (lines ++ (x ∷ r) ∷ []) []) (lines ++ (x ∷ r) ∷ [])
    more one refl full.1 in
    let bytes : ((text ++ x ∷ r) ++ lf ∷ []) ++ ended_lines more ≡ text ++ (((x ∷ r) ++ lf ∷ []) ++ ended_lines more) =
    ap (λ l. l ++ ended_lines more) (append_assoc text (x ∷ r) (lf ∷ []))
    ∙ append_assoc text ((x ∷ r) ++ lf ∷ []) (ended_lines more) in
    subst (λ (l : List ℕ). AreRecordFacts l (facts_of_record (lines ++ (x ∷ r) ∷ more) [])) bytes
    (subst (λ (l : List (List ℕ)). AreRecordFacts (((text ++ x ∷ r) ++ lf ∷ []) ++ ended_lines more)
    (facts_of_record l [])) (append_assoc lines ((x ∷ r) ∷ []) more) others)

-- Bytes that are all LF stay so with one LF more.
lfs_more : (blank : List ℕ) → AreLfs blank → AreLfs (blank ++ lf ∷ [])
lfs_more [] h = (refl, tt)
lfs_more (b ∷ blank) h = (h.0, lfs_more blank h.1)

-- An LF before all lines of a record changes none of the facts.
pub grown_blank : (text : List ℕ) (f : RecordFacts) → AreRecordFacts text f → no_lines f.contents ≡ true →
    AreRecordFacts (text ++ lf ∷ []) f
grown_blank text f known none =
    let old = known.open_record in
    let both = nothing_lines known.lines known.rest (ap (λ k. no_lines k.contents) (sym known.facts_are) ∙ none) in
    let is : text ≡ old.blank =
    old.whole ∙ ap (λ l. old.blank ++ (ended_lines l ++ known.rest)) both.0
    ∙ ap (λ l. old.blank ++ ([] ++ l)) both.1 ∙ append-nil old.blank in
    record {
      lines = [];
      rest = [];
      open_record =
          record {
            blank = old.blank ++ lf ∷ [];
            are_lfs = lfs_more old.blank old.are_lfs;
            whole =
                ap (λ l. l ++ lf ∷ []) is ∙ sym (append-nil (old.blank ++ lf ∷ []));
            full = tt;
            rest_no_lf = tt;
          };
      facts_are =
          known.facts_are ∙ ap (λ l. facts_of_record l known.rest) both.0 ∙ ap (λ l. facts_of_record [] l) both.1;
    }
