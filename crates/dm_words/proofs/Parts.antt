-- The part that the scan finds first is the part of the definition that begins there.
use Rattle.dm_words.proofs.Names.{◌≡◌, ◌≢◌, ℕ, suc, ◌+◌, ◌*◌, ◌<◌, ◌≤◌, List, [], ◌∷◌, ◌++◌, length, take, drop, refl}
use Rattle.dm_words.proofs.Names.{arith, Option, Some, None, length-take, Codeword, CodeSet, Extent, Usual, Wide}
use Rattle.dm_words.proofs.Names.{Item, WordFault, codeword_of, IsAsciiUnit, character, digits, fnc1, raised, IsPart}
use Rattle.dm_words.proofs.Names.{run, segment, edifact, IsEnd, pad, macro_behind, left_out, Step, Takes}
use Rattle.dm_words.proofs.Names.{Stops, part_by, first_part, nat_tests}
use Rattle.dm_words.specs.declared.codeword.Codeword.TheVariants as codeword
use Rattle.dm_words.specs.declared.fault.WordFault.TheVariants as fault
use Rattle.dm_words.specs.Parts.{ascii, nothing}
use Rattle.dm_words.specs.Faults.{edifact as edifact_left_out, IsFault, reserved, faulty_run, faulty_segment}
use Rattle.dm_words.specs.Faults.{unfinished, upper_shift}
use Rattle.dm_words.specs.inner.Scan.Prefixes.{raised_unit_by, run_behind, segment_behind, plain}
use Rattle.dm_words.proofs.Walks.{IsSound, IsComplete}
use Rattle.dm_words.proofs.Pairs.{IsBytes, IsBytes-drop}
use Rattle.dm_words.proofs.Runs.{RunJudged, run_judged, RunFound, run_complete, run_room}
use Rattle.dm_words.proofs.Runs as runs
use Rattle.dm_words.proofs.Groups.{edifact_judged, EdifactFound, edifact_complete, edifact_room}
use Rattle.dm_words.proofs.Segments.{SegmentJudged, segment_judged, SegmentFound, segment_complete, bad_sound}
use Rattle.dm_words.proofs.Segments.{bad_complete}
use Rattle.dm_words.proofs.Segments.{segment_room}

-- The scan finds first a part, the end, or a fault.
abbrev pub Found : Type 0
Found = Step (List Item) (Option WordFault)

-- What the scan finds first is right.
abbrev Judged : Extent → ℕ → List ℕ → Found → Type 0
Judged extent place words (Takes n items) =
    IsPart extent place (take n words) (drop n words) items × (0 < n) × (n ≤ length words)
Judged extent place words (Stops None) = IsEnd words
Judged extent place words (Stops (Some f)) = IsFault extent place words f

-- What is found behind an Upper Shift is right.
judged_upper : (extent : Extent) (place s w : ℕ) (more : List ℕ) (k : Option Codeword) → codeword_of s
    ≡ Some codeword.UpperShift → codeword_of w ≡ k → Judged extent place (s ∷ w ∷ more) (raised_unit_by place k)
judged_upper extent place s w more (Some (codeword.Character b)) es ew =
    (ascii (raised s w b es ew refl refl), omega arith, omega arith)
judged_upper extent place s w more _ es ew = upper_shift s w more es (λ b h. cc) refl refl

-- A run is a part, and a faulty run is a fault.
from_run : (extent : Extent) (set : CodeSet) (place : ℕ) (words : List ℕ) (found : Found)
    → RunJudged extent set place words found → Judged extent place words found
from_run extent set place words (Takes n items) j = (run set j.right, j.some, j.within)
from_run extent set place words (Stops None) j = absurd j
from_run extent set place words (Stops (Some f)) j = faulty_run set j.0 j.1

-- A segment is a part, and a faulty segment is a fault.
from_segment : (extent : Extent) (place w : ℕ) (more : List ℕ) (found : Found) → codeword_of w ≡ Some codeword.Base256
    → IsBytes more → segment_behind place (plain (place + 1) more) ≡ found → SegmentJudged place (w ∷ more) found
    → Judged extent place (w ∷ more) found
from_segment extent place w more (Takes n items) k fit e j = (segment j.right, j.some, j.within)
from_segment extent place w more (Stops None) k fit e j = absurd j
from_segment extent place w more (Stops (Some f)) k fit e j = faulty_segment (bad_sound place w more f k fit e) j

-- What is found by the meaning of the first word is right.
judged_by : (extent : Extent) (place w : ℕ) (more : List ℕ) (k : Option Codeword) → codeword_of w ≡ k → IsBytes more
    → Judged extent place (w ∷ more) (part_by extent place w more k)
judged_by extent place w more (Some (codeword.Character b)) k fit =
    (ascii (character w b k refl refl), omega arith, omega arith)
judged_by extent place w more (Some (codeword.Digits d)) k fit =
    (ascii (digits w d k refl refl), omega arith, omega arith)
judged_by extent place w more (Some codeword.Fnc1) k fit = (ascii (fnc1 w k refl refl), omega arith, omega arith)
judged_by extent place w [] (Some codeword.UpperShift) k fit = unfinished w k refl refl
judged_by extent place w (v ∷ more) (Some codeword.UpperShift) k fit =
    judged_upper extent place w v more (codeword_of v) k refl
judged_by extent place w more (Some codeword.Pad) k fit = pad w more k refl
judged_by extent place w more (Some (codeword.Latch set)) k fit =
    from_run extent set place (w ∷ more) (run_behind extent set place more) (run_judged extent set place w more k fit)
judged_by extent place w more (Some codeword.Base256) k fit =
    from_segment extent place w more _ k fit refl (segment_judged place w more k fit)
judged_by Usual place w more (Some codeword.Edifact) k fit = edifact_left_out w more refl k refl refl
judged_by Wide place w more (Some codeword.Edifact) k fit = let r =
    edifact_judged w more k fit in (edifact refl r.right, r.some, r.within)
judged_by extent place w more (Some (codeword.Macro digit)) k fit = macro_behind w digit more k refl refl
judged_by extent place w more (Some codeword.LeftOut) k fit = left_out w more k refl refl
judged_by extent place w more None k fit = reserved w more k refl refl

-- What is found first of the words is right.
judged : (extent : Extent) (place : ℕ) (words : List ℕ) → IsBytes words
    → Judged extent place words (first_part extent place words)
judged extent place [] fit = nothing refl
judged extent place (w ∷ more) fit = judged_by extent place w more (codeword_of w) refl (λ i. fit (suc i))

-- Whatever the scan finds is right.
judged_as : (extent : Extent) (place : ℕ) (words : List ℕ) (found : Found) → IsBytes words
    → first_part extent place words ≡ found → Judged extent place words found
judged_as extent place words found fit e = grind (arith, nat_tests, judged)

-- A part that is found is a part.
pub part_sound : (extent : Extent) → IsSound (first_part extent) (IsPart extent) IsBytes
part_sound extent =
    record {
      right = λ place words n items fit e. judged_as extent place words (Takes n items) fit e;
      fits =
          IsBytes-drop;
    }

-- A fault that is found is there.
pub fault_sound : (extent : Extent) (place : ℕ) (words : List ℕ) (f : WordFault) → IsBytes words
    → first_part extent place words ≡ Stops (Some f) → IsFault extent place words f
fault_sound extent place words f fit e = judged_as extent place words (Stops (Some f)) fit e

-- An end that is found is there.
pub end_sound : (extent : Extent) (place : ℕ) (words : List ℕ) → IsBytes words → first_part extent place words
    ≡ Stops None → IsEnd words
end_sound extent place words fit e = judged_as extent place words (Stops None) fit e

-- ---- the other way

-- A unit that is a prefix is found.
unit_again : (extent : Extent) (place : ℕ) (words after : List ℕ) (items : List Item) → IsAsciiUnit words items
    → (first_part extent place (words ++ after) ≡ Takes (length words) items) × (0 < length words)
unit_again extent place words after items h1 = grind (arith, nat_tests)

-- What stands behind a latch to a run is found at the latch.
run_found : (extent : Extent) (set : CodeSet) (place : ℕ) (words : List ℕ) (step : Found)
    → RunFound extent set place words step → first_part extent place words ≡ step
run_found extent set place words step f = rw (f.whole, f.is_latch) f.found

-- What stands behind a latch to Base 256 is found at the latch.
segment_found : (extent : Extent) (place : ℕ) (words : List ℕ) (step : Found) → SegmentFound place words step
    → first_part extent place words ≡ step
segment_found extent place words step f = rw (f.whole, f.is_latch) f.found

-- A run of EDIFACT that stands behind its latch is found there in the wide extent.
edifact_found : (place : ℕ) (words : List ℕ) (n : ℕ) (items : List Item) → EdifactFound words n items
    → first_part Wide place words ≡ Takes n items
edifact_found place words n items f = rw (f.whole, f.is_latch, f.count, f.found) refl

-- A part that is a prefix is found.
pub part_complete : (extent : Extent) → IsComplete (first_part extent) (IsPart extent)
part_complete extent place words after items (ascii u) = unit_again extent place words after items u
part_complete extent place words after items (segment s) = let c =
    segment_complete place words after items s in
    (segment_found extent place (words ++ after) (Takes (length words) items) c.0, c.1)
part_complete extent place words after items (run set r) = let c =
    run_complete extent set place words after items r in
    (run_found extent set place (words ++ after) (Takes (length words) items) c.0, c.1)
part_complete extent place words after items (edifact is r) = let c =
    edifact_complete words after items r in rw is (edifact_found place (words ++ after) (length words) items c.0, c.1)

-- An end that is a prefix is found.
pub end_complete : (extent : Extent) (place : ℕ) (words : List ℕ) → IsEnd words → first_part extent place words
    ≡ Stops None
end_complete extent place words h1 = grind (arith, nat_tests)

-- An Upper Shift before something that is not a character is found to be faulty.
no_character : (place : ℕ) (k : Option Codeword) → ((b : ℕ) → k ≢ Some (codeword.Character b))
    → raised_unit_by place k ≡ Stops (Some (fault.UpperShift place))
no_character place k h1 = grind (arith, nat_tests)

-- A fault that is there is found.
pub fault_complete : (extent : Extent) (place : ℕ) (words : List ℕ) (f : WordFault) → IsFault extent place words f
    → first_part extent place words ≡ Stops (Some f)
fault_complete extent place words f (reserved w more k e is) = rw (e, k, is) refl
fault_complete extent place words f (left_out w more k e is) = rw (e, k, is) refl
fault_complete extent place words f (macro_behind w digit more k e is) = rw (e, k, is) refl
fault_complete extent place words f (edifact_left_out w more usual k e is) = rw (e, k, is, usual) refl
fault_complete extent place words f (faulty_run set r is) =
    run_found _ _ _ _ _ (runs.fault_complete _ _ _ _ f r is)
fault_complete extent place words f (faulty_segment s is) = rw is (segment_found extent _ _ _ (bad_complete _ _ s))
fault_complete extent place words f (unfinished w k e is) = rw (e, k, is) refl
fault_complete extent place words f (upper_shift s w more k none_such e is) =
    rw (e, k, is) (no_character place (codeword_of w) none_such)

-- A unit of ASCII has at most two items for each word.
unit_room : (words : List ℕ) (items : List Item) → IsAsciiUnit words items → length items ≤ 2 * length words
unit_room words items h1 = grind arith

-- A part has at most two items for each word.
pub room_of : (extent : Extent) (place : ℕ) (words after : List ℕ) (items : List Item)
    → IsPart extent place words after items → length items ≤ 2 * length words
room_of extent place words after items (ascii u) = unit_room words items u
room_of extent place words after items (segment s) = segment_room place words after items s
room_of extent place words after items (run set r) = run_room extent set words after items r
room_of extent place words after items (edifact is r) = edifact_room words after items r

-- The first part has some words, and at most two items for each.
pub part_room : (extent : Extent) (place : ℕ) (words : List ℕ) (n : ℕ) (items : List Item) → IsBytes words
    → first_part extent place words ≡ Takes n items → (length items ≤ 2 * n) × (0 < n) × (n ≤ length words)
part_room extent place words n items fit e =
    let r = (part_sound extent).right place words n items fit e in
    (omega (arith, room_of extent place (take n words) (drop n words) items r.0, length-take n words), r.1, r.2)
