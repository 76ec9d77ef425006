-- The loop that finds one designator of a content after the other.
use Rattle.dm_words.proofs.Names.{◌≡◌, ◌≢◌, ℕ, ◌+◌, ◌*◌, ◌<◌, ◌≤◌, List, [], ◌∷◌, ◌++◌, length, take, drop, refl, sym}
use Rattle.dm_words.proofs.Names.{ap, subst, ◌∙◌, append_assoc, arith, length-append, get_or, Option, Some, None}
use Rattle.dm_words.proofs.Names.{Result, Ok, Err, append-nil, drop_at, length-drop, length-take, drop-drop}
use Rattle.dm_words.proofs.Names.{take-append-drop, Wide, Designator, ContentFault, Mark, Opened, Piece, spelled}
use Rattle.dm_words.proofs.Names.{whats, AreJoined, ContentView, Says, Said, Items, Number, IsContentPart}
use Rattle.dm_words.proofs.Names.{AreContentParts, AreMarksAt, HaveContentFault, IsOpening, AreOpened, no_head, behind}
use Rattle.dm_words.proofs.Names.{AreDesignations, of_content, of_refused, Stops, opened, mark_by, first_content_part}
use Rattle.dm_words.proofs.Names.{content_of, nat_tests, true, ◌/◌, ◌%◌, Codeword, codeword_of, Item, Byte, Takes}
use Rattle.dm_words.proofs.Names.{first_part, is_one_word, designation, designations}
use Rattle.dm_words.specs.declared.codeword.Codeword.TheVariants as codeword
use Rattle.std.proofs.lemmas.List.{get_or_append_left, get_or-append-add}
use Rattle.dm_words.specs.inner.ContentsAt.{IsDesignationTaken}
use Rattle.dm_words.proofs.Pairs.{IsBytes, IsBytes-drop}
use Rattle.dm_words.proofs.Pieces.{joined-last, spelled-last}
use Rattle.dm_words.proofs.Openings as openings
use Rattle.dm_words.proofs.Openings.{OpeningJudged}
use Rattle.dm_words.proofs.ContentParts.{as_part, content_part_sound, content_end_sound, content_fault_sound, no_eci}
use Rattle.dm_words.proofs.ContentLoops.{HasRoom, room_by}
use Rattle.dm_words.proofs.EciCounts.{more_marks, mark_count, taken_away}
use Rattle.dm_words.proofs.WholeContents.{reads}

-- The designators of parts, and of one behind them.
designations-last : (before : ℕ) (pieces : List (Piece Said)) (q : Piece Said)
    → designations before (pieces ++ q ∷ []) ≡ designations before pieces
    ++ designation (before + length (spelled pieces)) q.what
designations-last before [] q = grind (arith, nat_tests, append-nil, designation)
designations-last before (p ∷ ps) q =
    grind (arith, length-append, append_assoc, designations-last (before + length p.words) ps q)

-- The parts between two indexes are taken, and these are their designators.
pub record AreTaken (words : List ℕ) (start at : ℕ) (found : List Mark) : Type 0 where
  pub pieces : List (Piece Said)
  pub whole : drop start words ≡ spelled pieces ++ drop at words
  pub joined : AreJoined (IsContentPart Wide) (start + 1) pieces (drop at words)
  pub long : at ≡ start + length (spelled pieces)
  pub found_is : found ≡ designations start pieces

-- Before the first part none is taken.
pub none_taken : (words : List ℕ) (start : ℕ) (found : List Mark) → found ≡ [] → AreTaken words start start found
none_taken words start found e = grind (arith, nat_tests)

-- After a turn of the loop that takes a part, this is known.
pub record Leaves (words : List ℕ) (start at n : ℕ) (found : List Mark) : Type 0 where
  pub in_range : at + n ≤ length words
  pub some : 0 < n
  pub marks : AreMarksAt words (at + n) found
  pub taken : AreTaken words start (at + n) found

-- The designator of a part has room, and is its mark.
designation_fits : (at n : ℕ) (said : Said) → HasRoom n said
    → (2 * length (designation at said) ≤ n) × (length (designation at said) ≡ mark_count said)
designation_fits at n (Items items) room = (omega arith, refl)
designation_fits at n (Number number) room = (omega (arith, room.0), refl)

-- A part that is taken goes on with those that were.
pub goes_on : (words : List ℕ) (start at n : ℕ) (old new : List Mark) → IsBytes words → at ≤ length words
    → AreMarksAt words at old → AreTaken words start at old
    → IsDesignationTaken (Ok (Some n)) at old new (first_content_part Wide (at + 1) (drop at words))
    → Leaves words start at n new
goes_on words start at n old new fit in_range v t took =
    let said = took.0 in
    let fits = (content_part_sound Wide).fits at words fit in
    let r = (content_part_sound Wide).right (at + 1) (drop at words) n said fits took.1 in
    let long : length (take n (drop at words)) ≡ n = omega (arith, length-take n (drop at words), r.2) in
    let room : HasRoom n said =
    rw long at (room_by Wide (at + 1) (take n (drop at words)) (drop n (drop at words)) said r.0) in
    let q : Piece Said = record { words = take n (drop at words); what = said } in
    let cut : take n (drop at words) ++ drop n (drop at words) ≡ drop at words = take-append-drop n (drop at words) in
    let rest : drop n (drop at words) ≡ drop (at + n) words = drop-drop n at words in
    let place : at + 1 ≡ (start + 1) + length (spelled t.pieces) = omega (arith, t.long) in
    let found = designation_fits at n said room in
    let left = taken_away Wide at n words said r.0 in
    let joined = joined-last (IsContentPart Wide) (start + 1) t.pieces q (drop n (drop at words))
    (rw (sym cut) at t.joined) (rw place at r.0) in
    record {
      in_range = omega (arith, r.2, length-drop at words);
      some = r.1;
      marks = rw took.2 (more_marks words at n old (designation at said) v found.0 (omega (arith, found.1, left)));
      taken = record {
        pieces = t.pieces ++ q ∷ [];
        whole = t.whole ∙ ap (λ (l : List ℕ). spelled t.pieces ++ l) (sym cut)
            ∙ sym (append_assoc (spelled t.pieces) (take n (drop at words)) (drop n (drop at words)))
            ∙ ap (λ (l : List ℕ). l ++ drop n (drop at words)) (sym (spelled-last t.pieces q))
            ∙ ap (λ (l : List ℕ). spelled (t.pieces ++ q ∷ []) ++ l) rest;
        joined = subst (λ (l : List ℕ). AreJoined (IsContentPart Wide) (start + 1) (t.pieces ++ q ∷ []) l) rest joined;
        long = omega (
          arith,
          ap length (spelled-last t.pieces q),
          length-append (spelled t.pieces) (take n (drop at words)),
        );
        found_is = cc (took.2, t.found_is, t.long, designations-last start t.pieces q);
      };
    }

-- At the end these are the designators of all parts.
pub ends : (words : List ℕ) (start at : ℕ) (found : List Mark) → IsBytes words → AreTaken words start at found
    → first_content_part Wide (at + 1) (drop at words) ≡ Stops None
    → (said : List Said) × (parts : AreContentParts Wide (start + 1) (drop start words) said)
    × (found ≡ designations start parts.parts)
ends words start at found fit t e = (
  whats t.pieces,
  record {
    parts = t.pieces;
    after = drop at words;
    joined = t.joined;
    ended = content_end_sound Wide (at + 1) (drop at words) (IsBytes-drop at words fit) e;
    whole = t.whole;
    said_are = refl;
  },
  t.found_is,
)

-- A fault that is met is there.
pub fails : (words : List ℕ) (start at : ℕ) (found : List Mark) (why : ContentFault) → IsBytes words
    → AreTaken words start at found → first_content_part Wide (at + 1) (drop at words) ≡ Stops (Some why)
    → HaveContentFault Wide (start + 1) (drop start words) why
fails words start at found why fit t e =
    let place : at + 1 ≡ (start + 1) + length (spelled t.pieces) = omega (arith, t.long) in
    record {
      parts = t.pieces;
      after = drop at words;
      joined = t.joined;
      whole = t.whole;
      faulty = rw place at (content_fault_sound Wide (at + 1) (drop at words) why (IsBytes-drop at words fit) e);
    }

-- The items that a codeword says which is by itself a part.
abbrev alone_items : Option Codeword → List Item
alone_items (Some (codeword.Character byte)) = Byte byte ∷ []
alone_items (Some (codeword.Digits number)) = Byte (48 + number / 10) ∷ Byte (48 + number % 10) ∷ []
alone_items _ = []

-- Such a codeword is a part.
alone_takes : (place word : ℕ) (more : List ℕ) → is_one_word (codeword_of word) ≡ true
    → first_part Wide place (word ∷ more) ≡ Takes 1 (alone_items (codeword_of word))
alone_takes place word more is = grind (arith, nat_tests)

-- It has no designator.
pub passed_alone : (words : List ℕ) (at word : ℕ) (found : List Mark) → drop at words ≡ word ∷ drop (at + 1) words
    → is_one_word (codeword_of word) ≡ true
    → IsDesignationTaken (Ok (Some 1)) at found found (first_content_part Wide (at + 1) (drop at words))
passed_alone words at word found here is =
    let more = drop (at + 1) words in
    let items = alone_items (codeword_of word) in
    let took = alone_takes (at + 1) word more is in
    let behind : first_content_part Wide (at + 1) (word ∷ more) ≡ Takes 1 (Items items) =
    cc (as_part Wide (at + 1) word more (λ wide. no_eci Wide (at + 1) word 1 more items took), took) in
    (Items items, rw here behind, sym (append-nil found))

-- Behind ECI, a designator is found.
pub designator_found : (at : ℕ) (o : Option Designator) (d : Designator) (old new : List Mark) → o ≡ Some d
    → new ≡ old ++ record { place = at; number = d.number } ∷ []
    → IsDesignationTaken (Ok (Some (1 + d.count))) at old new (mark_by (at + 1) o)
designator_found at o d old new e is = rw e (Number d.number, refl, is)

-- ---- the whole

-- Where no head is found behind structured append, there are no designators.
pub of_no_opening : (words : List ℕ) (found : List Mark) → opened Wide words ≡ None → found ≡ []
    → AreDesignations words found
of_no_opening words found e is =
    let j = subst (OpeningJudged Wide words) e (openings.judged Wide words) in
    of_refused _ (no_head j.more j.wide j.whole j.none refl) is

-- An opening that is found opens so.
opens : (words : List ℕ) (o : Opened) → OpeningJudged Wide words (Some o)
    → (a : AreOpened Wide words o.opening (o.count + 1) (drop o.count words)) × (o.count ≡ length a.first)
opens words o j =
    let rest = ap (drop o.count) j.whole ∙ drop_at j.first j.more o.count (sym j.count) in (
      record {
        first = j.first;
        is_opening = subst (λ (more : List ℕ). IsOpening Wide j.first more o.opening) (sym rest) j.is_opening;
        whole = j.whole ∙ ap (λ (more : List ℕ). j.first ++ more) (sym rest);
        place_is = omega (arith, j.count);
      },
      j.count,
    )

-- The designators of the parts behind an opening are those of the content.
pub of_parts : (words : List ℕ) (o : Opened) (found : List Mark) → opened Wide words ≡ Some o
    → (said : List Said) (parts : AreContentParts Wide (o.count + 1) (drop o.count words) said)
    → found ≡ designations o.count parts.parts → AreDesignations words found
of_parts words o found e said parts is =
    let a = opens words o (subst (OpeningJudged Wide words) e (openings.judged Wide words)) in
    of_content o.opening (o.count + 1) (drop o.count words) a.0 said parts
    (is ∙ ap (λ (k : ℕ). designations k parts.parts) a.1)

-- Where the parts behind an opening have a fault, there are none.
pub of_fault : (words : List ℕ) (o : Opened) (found : List Mark) (why : ContentFault) → opened Wide words ≡ Some o
    → HaveContentFault Wide (o.count + 1) (drop o.count words) why → found ≡ [] → AreDesignations words found
of_fault words o found why e fault is =
    let a = opens words o (subst (OpeningJudged Wide words) e (openings.judged Wide words)) in
    of_refused why (behind o.opening (o.count + 1) (drop o.count words) a.0 fault.parts fault.after fault.joined
    fault.whole fault.faulty) is

-- ---- none

-- No codeword is ECI.
abbrev pub HaveNoEci : List ℕ → Type 0
HaveNoEci words = (i : ℕ) → i < length words → get_or words i 0 ≢ 241

-- Neither is one of the first, nor one of the others.
no_eci_before : (a b : List ℕ) → HaveNoEci (a ++ b) → HaveNoEci a
no_eci_before a b none i lt e = grind (arith, nat_tests, length-append, get_or_append_left)

no_eci_behind : (a b : List ℕ) → HaveNoEci (a ++ b) → HaveNoEci b
no_eci_behind a b none i lt e = grind (arith, nat_tests, length-append, get_or-append-add)

-- Parts without ECI have no designators.
no_designation : (place before : ℕ) (words after : List ℕ) (said : Said) → IsContentPart Wide place words after said
    → HaveNoEci words → designation before said ≡ []
no_designation place before words after said h1 h2 = grind arith

no_designations : (place before : ℕ) (ps : List (Piece Said)) (after : List ℕ)
    → AreJoined (IsContentPart Wide) place ps after
    → HaveNoEci (spelled ps) → designations before ps ≡ []
no_designations place before [] after joined none = refl
no_designations place before (p ∷ ps) after joined none =
    let here = no_designation _ before _ _ _ joined.0 (no_eci_before p.words (spelled ps) none) in
    let there = no_designations (place + length p.words) (before + length p.words) ps after joined.1
    (no_eci_behind p.words (spelled ps) none) in
    rw (here, there) refl

-- The parts of a content that is said have none.
none_said : (words : List ℕ) (l : ContentView) → Says Wide words l → HaveNoEci words → AreDesignations words []
none_said words l s none =
    let more : HaveNoEci s.more = no_eci_behind s.opened.first s.more
    (subst HaveNoEci s.opened.whole none) in
    let parts : HaveNoEci (spelled s.parts.parts) = no_eci_before (spelled s.parts.parts) s.parts.after
    (subst HaveNoEci s.parts.whole more) in
    of_content s.opening s.place s.more s.opened s.said s.parts
    (sym (no_designations s.place (length s.opened.first) s.parts.parts s.parts.after s.parts.joined parts))

-- Words without ECI have no designators.
pub none_without_eci : (words : List ℕ) → IsBytes words → HaveNoEci words → AreDesignations words []
none_without_eci words fit none = by_result (content_of Wide words) refl where
  by_result : (r : Result ContentView ContentFault) → content_of Wide words ≡ r → AreDesignations words []
  by_result (Ok l) e = none_said words l ((reads Wide words fit).content_is l e) none
  by_result (Err why) e = of_refused why ((reads Wide words fit).fault_is why e) refl
