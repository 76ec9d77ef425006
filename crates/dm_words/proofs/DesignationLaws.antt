-- Codewords have one list of designators, whose numbers are those of the marks of the content that they say.
use Rattle.dm_words.proofs.Names.{◌≡◌, ℕ, ◌+◌, List, [], ◌∷◌, ◌++◌, length, drop, map, refl, sym, ap, subst, ◌∙◌}
use Rattle.dm_words.proofs.Names.{append_assoc, Option, Some, None, drop_at, Wide, Mark, Opened, Piece, spelled}
use Rattle.dm_words.proofs.Names.{whats, AreJoined, ContentView, Says, Said, Items, Number, IsContentPart}
use Rattle.dm_words.proofs.Names.{said_content, said_marks, opening_items, AreOpened, AreContentParts, Opening, IsEnd}
use Rattle.dm_words.proofs.Names.{designation, designations, AreDesignations, of_content, of_refused, Takes}
use Rattle.dm_words.proofs.Names.{first_content_part, arith, nat_tests}
use Rattle.dm_words.proofs.ContentParts.{content_part_complete, content_end_complete}
use Rattle.dm_words.proofs.WholeContents.{opens_so}
use Rattle.dm_words.proofs.ContentResults.{said_not_refused}
use Rattle.dm_words.proofs.Openings.{said_behind}

-- Where words are parts and an end in two ways, the designators of both are the same.
same_designations : (before place : ℕ) (ps qs : List (Piece Said)) (words after rest : List ℕ)
    → words ≡ spelled ps ++ after → words ≡ spelled qs ++ rest → AreJoined (IsContentPart Wide) place ps after
    → AreJoined (IsContentPart Wide) place qs rest → IsEnd after → IsEnd rest
    → designations before ps ≡ designations before qs
same_designations before place [] [] words after rest one other joined with_other ended end = refl
same_designations before place [] (q ∷ qs) words after rest one other joined with_other ended end =
    grind (arith, nat_tests, first_content_part, content_end_complete, append_assoc, spelled, content_part_complete)
same_designations before place (p ∷ ps) [] words after rest one other joined with_other ended end =
    grind (arith, nat_tests, first_content_part, content_end_complete, append_assoc, spelled, content_part_complete)
same_designations before place (p ∷ ps) (q ∷ qs) words after rest one other joined with_other ended end =
    let first = one ∙ append_assoc p.words (spelled ps) after in
    let second = other ∙ append_assoc q.words (spelled qs) rest in
    let takes : first_content_part Wide place words ≡ Takes (length p.words) p.what =
    cc ((content_part_complete Wide place p.words (spelled ps ++ after) p.what joined.0).0) in
    let takes_other : first_content_part Wide place words ≡ Takes (length q.words) q.what =
    cc ((content_part_complete Wide place q.words (spelled qs ++ rest) q.what with_other.0).0) in
    let count : length p.words ≡ length q.words = cc in
    let what : p.what ≡ q.what = cc in
    let left : drop (length p.words) words ≡ spelled ps ++ after =
    ap (drop (length p.words)) first ∙ drop_at p.words (spelled ps ++ after) (length p.words) refl in
    let right : drop (length p.words) words ≡ spelled qs ++ rest =
    cc (drop_at q.words (spelled qs ++ rest) (length q.words) refl) in
    let further = same_designations (before + length p.words) (place + length p.words) ps qs
    (drop (length p.words) words) after rest left right joined.1 (rw (sym count) at with_other.1) ended end in
    cc

-- How many codewords open a content.
abbrev opening_length : Option Opened → ℕ
opening_length None = 0
opening_length (Some opened) = opened.count

-- An opening and parts say a content.
says_so : {words more : List ℕ} {opening : Opening} {place : ℕ} {said : List Said}
    → AreOpened Wide words opening place more → AreContentParts Wide place more said
    → Says Wide words (said_content opening said)
says_so {more = more} {opening = opening} {place = place} {said = said} opened parts = grind (arith, nat_tests)

-- Codewords have one list of designators.
pub one_list : (words : List ℕ) (found other : List Mark) → AreDesignations words found → AreDesignations words other
    → found ≡ other
one_list words found other (of_content opening place more opened said parts is)
    (of_content opening_too place_too more_too opened_too said_too parts_too is_too) =
    let opens = opens_so Wide words opening place more opened in
    let opens_too = opens_so Wide words opening_too place_too more_too opened_too in
    let count : length opened.first ≡ length opened_too.first = ap opening_length (sym opens.0 ∙ opens_too.0) in
    let tails : more ≡ more_too = sym opens.1 ∙ ap (λ (n : ℕ). drop n words) count ∙ opens_too.1 in
    let places : place_too ≡ place = cc in
    cc (same_designations (length opened.first) place parts.parts parts_too.parts more parts.after parts_too.after
    parts.whole (tails ∙ parts_too.whole) parts.joined
    (subst (λ (n : ℕ). AreJoined (IsContentPart Wide) n parts_too.parts parts_too.after) places parts_too.joined)
    parts.ended parts_too.ended)
one_list words found other (of_content opening place more opened said parts is) (of_refused why refused none) =
    absurd (said_not_refused Wide words (said_content opening said) why (says_so opened parts) refused)
one_list words found other (of_refused why refused none) (of_content opening place more opened said parts is) =
    absurd (said_not_refused Wide words (said_content opening said) why (says_so opened parts) refused)
one_list words found other (of_refused why refused none) (of_refused why_too refused_too none_too) = none ∙ sym none_too

-- The numbers of marks.
abbrev numbers : List Mark → List ℕ
numbers marks = map (λ (mark : Mark). mark.number) marks

-- The designators of parts have the numbers of the marks that the parts say.
numbered : (before items : ℕ) (ps : List (Piece Said))
    → numbers (designations before ps) ≡ numbers (said_marks items (whats ps))
numbered before items [] = refl
numbered before items (p ∷ ps) = by_said p.what (λ n. numbered (before + length p.words) n ps)
  where
    by_said : (said : Said) → ((n : ℕ) → numbers (designations (before + length p.words) ps)
        ≡ numbers (said_marks n (whats ps)))
        → numbers (designation before said ++ designations (before + length p.words) ps)
        ≡ numbers (said_marks items (said ∷ whats ps))
    by_said (Items said) rest = rest (items + length said)
    by_said (Number number) rest = ap (λ (l : List ℕ). number ∷ l) (rest items)

-- The designators have the numbers of the marks of the content.
pub numbers_of_marks : (words : List ℕ) (l : ContentView) (found : List Mark) → Says Wide words l
    → AreDesignations words found → numbers found ≡ numbers l.marks
numbers_of_marks words l found s are =
    let own = designations (length s.opened.first) s.parts.parts in
    let items : ℕ = length (opening_items s.opening) in
    ap numbers (one_list words found own are (of_content s.opening s.place s.more s.opened s.said s.parts refl))
    ∙ numbered (length s.opened.first) items s.parts.parts
    ∙ ap (λ (said : List Said). numbers (said_marks items said)) (sym s.parts.said_are)
    ∙ ap (λ (k : ContentView). numbers k.marks) (sym (s.content_is ∙ said_behind s.opening s.said))
