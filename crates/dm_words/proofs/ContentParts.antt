-- The part of a content that the scan finds first is the part of the definition that begins there.
use Rattle.dm_words.proofs.Names.{◌≡◌, ℕ, ◌+◌, ◌<◌, ◌≤◌, List, [], ◌∷◌, ◌++◌, length, take, drop, refl, ap, ◌∙◌}
use Rattle.dm_words.proofs.Names.{arith, length-append, Bool, true, false, cond, Option, Some, None, ◌==◌, nat_tests}
use Rattle.dm_words.proofs.Names.{Extent, Usual, Wide, Item, WordFault, Designator, ContentFault, codeword_of, IsEnd}
use Rattle.dm_words.proofs.Names.{Said, Items, IsContentPart, part, mark, BeginNoEci, IsContentFault, word, Step}
use Rattle.dm_words.proofs.Names.{Takes, Stops, first_part, first_designator, as_said, mark_by, first_content_part}
use Rattle.dm_words.specs.declared.contents.fault.ContentFault.TheVariants as fault
use Rattle.dm_words.specs.Parts.{nothing}
use Rattle.dm_words.specs.Contents.{designator}
use Rattle.dm_words.proofs.Walks.{IsSound, IsComplete}
use Rattle.dm_words.proofs.Pairs.{IsBytes, IsBytes-drop}
use Rattle.dm_words.proofs.Parts.{Found, part_sound, part_complete, fault_sound, fault_complete, end_sound}
use Rattle.dm_words.proofs.Parts.{end_complete}
use Rattle.dm_words.proofs.Designators as designators

-- The scan finds first a part of a content, the end, or a fault.
abbrev pub ContentFound : Type 0
ContentFound = Step Said (Option ContentFault)

-- What the scan finds first is right.
abbrev Judged : Extent → ℕ → List ℕ → ContentFound → Type 0
Judged extent place words (Takes n said) =
    IsContentPart extent place (take n words) (drop n words) said × (0 < n) × (n ≤ length words)
Judged extent place words (Stops None) = IsEnd words
Judged extent place words (Stops (Some f)) = IsContentFault extent place words f

-- The usual extent isn't the wide one.
pub not_wide : Usual ≡ Wide → ⊥
not_wide e = cc

-- The first so many words of two lists are the first list.
take_all : (xs ys : List ℕ) (n : ℕ) → n ≡ length xs → take n (xs ++ ys) ≡ xs
take_all [] [] n e = rw e refl
take_all [] (y ∷ ys) n e = rw e refl
take_all (x ∷ xs) ys n e = rw e (ap (λ (l : List ℕ). x ∷ l) (take_all xs ys (length xs) refl))

-- Behind ECI, what is found is right.
judged_mark : (place : ℕ) (more : List ℕ) (d : Option Designator) → first_designator more ≡ d
    → Judged Wide place (241 ∷ more) (mark_by place d)
judged_mark place more None e = designator more refl (designators.none_begins more e) refl refl
judged_mark place more (Some d) e =
    let f = designators.found more d e in
    let whole : 241 ∷ more ≡ (241 ∷ f.first) ++ f.more = ap (λ (l : List ℕ). 241 ∷ l) f.whole in
    let count : 1 + d.count ≡ length (241 ∷ f.first) = omega (arith, f.count) in
    let words : take (1 + d.count) (241 ∷ more) ≡ 241 ∷ f.first = ap (take (1 + d.count)) whole
    ∙ take_all (241 ∷ f.first) f.more (1 + d.count) count in (
      mark f.first d.number refl f.is_designator words refl,
      omega arith,
      omega (arith, f.count, ap length f.whole, length-append f.first f.more),
    )

-- Where the words don't begin with ECI, what is found is right.
judged_part : (extent : Extent) (place w : ℕ) (more : List ℕ) (s : Found) → (extent ≡ Wide → w ≡ 241 → ⊥)
    → IsBytes (w ∷ more) → first_part extent place (w ∷ more) ≡ s → Judged extent place (w ∷ more) (as_said s)
judged_part extent place w more (Takes n items) other fit e =
    let r = (part_sound extent).right place (w ∷ more) n items fit e in
    (part items r.0 refl, r.1, r.2)
judged_part extent place w more (Stops None) other fit e = end_sound extent place (w ∷ more) fit e
judged_part extent place w more (Stops (Some f)) other fit e =
    word f (λ wide rest is. (let same : w ≡ 241 = cc in other wide same)) (fault_sound extent place (w ∷ more) f fit e)
    refl

-- What is found first of the words is right.
judged : (extent : Extent) (place : ℕ) (words : List ℕ) → IsBytes words
    → Judged extent place words (first_content_part extent place words)
judged extent place [] fit = nothing refl
judged Usual place (w ∷ more) fit =
    judged_part Usual place w more (first_part Usual place (w ∷ more)) (λ wide. absurd (not_wide wide)) fit refl
judged Wide place (w ∷ more) fit = by_test (w == 241) refl where
  by_test : (t : Bool) → (w == 241) ≡ t
      → Judged Wide place (w ∷ more)
      (cond t (mark_by place (first_designator more)) (as_said (first_part Wide place (w ∷ more))))
  by_test true e =
      (let is : w ≡ 241 = grind (arith, nat_tests) in rw is (judged_mark place more (first_designator more) refl))
  by_test false e =
      judged_part Wide place w more (first_part Wide place (w ∷ more)) (λ wide is. grind (arith, nat_tests)) fit refl

-- Whatever the scan finds is right.
judged_as : (extent : Extent) (place : ℕ) (words : List ℕ) (found : ContentFound) → IsBytes words
    → first_content_part extent place words ≡ found → Judged extent place words found
judged_as extent place words found fit e = grind (arith, nat_tests, judged)

-- A part that is found is a part.
pub content_part_sound : (extent : Extent) → IsSound (first_content_part extent) (IsContentPart extent) IsBytes
content_part_sound extent =
    record {
      right = λ place words n said fit e. judged_as extent place words (Takes n said) fit e;
      fits = IsBytes-drop;
    }

-- A fault that is found is there.
pub content_fault_sound : (extent : Extent) (place : ℕ) (words : List ℕ) (f : ContentFault) → IsBytes words
    → first_content_part extent place words ≡ Stops (Some f) → IsContentFault extent place words f
content_fault_sound extent place words f fit e = judged_as extent place words (Stops (Some f)) fit e

-- An end that is found is there.
pub content_end_sound : (extent : Extent) (place : ℕ) (words : List ℕ) → IsBytes words
    → first_content_part extent place words ≡ Stops None → IsEnd words
content_end_sound extent place words fit e = judged_as extent place words (Stops None) fit e

-- ---- the other way

-- Where the words don't begin with ECI, a part of a content is one of a message.
pub as_part : (extent : Extent) (place w : ℕ) (more : List ℕ) → (extent ≡ Wide → w ≡ 241 → ⊥)
    → first_content_part extent place (w ∷ more) ≡ as_said (first_part extent place (w ∷ more))
as_part Usual place w more other = refl
as_part Wide place w more other = by_test (w == 241) refl where
  by_test : (t : Bool) → (w == 241) ≡ t
      → cond t (mark_by place (first_designator more)) (as_said (first_part Wide place (w ∷ more)))
      ≡ as_said (first_part Wide place (w ∷ more))
  by_test true e = absurd (other refl (grind (arith, nat_tests)))
  by_test false e = refl

-- No part of a message begins with ECI.
pub no_eci : (extent : Extent) (place w n : ℕ) (more : List ℕ) (items : List Item)
    → first_part extent place (w ∷ more) ≡ Takes n items → w ≡ 241 → ⊥
no_eci extent place w n more items e is = grind (arith, nat_tests)

-- A part of a message that is a prefix is found.
found_part : (extent : Extent) (place : ℕ) (words after : List ℕ) (items : List Item)
    → (first_part extent place (words ++ after) ≡ Takes (length words) items) × (0 < length words)
    → (first_content_part extent place (words ++ after) ≡ Takes (length words) (Items items)) × (0 < length words)
found_part extent place words after items h1 = grind (arith, nat_tests, as_part, no_eci, as_said)

-- A part that is a prefix is found.
pub content_part_complete : (extent : Extent) → IsComplete (first_content_part extent) (IsContentPart extent)
content_part_complete extent place words after said (part items p is) =
    rw is (found_part extent place words after items (part_complete extent place words after items p))
content_part_complete extent place words after said (mark d number wide e whole is) = grind (arith, nat_tests, mark_by)

-- An end that is a prefix is found.
pub content_end_complete : (extent : Extent) (place : ℕ) (words : List ℕ) → IsEnd words
    → first_content_part extent place words ≡ Stops None
content_end_complete extent place words h1 = grind (arith, nat_tests, codeword_of, as_part, as_said, end_complete)

-- A fault of a message that is there is found.
found_fault : (extent : Extent) (place : ℕ) (words : List ℕ) (f : WordFault) → (extent ≡ Wide → BeginNoEci words)
    → first_part extent place words ≡ Stops (Some f)
    → first_content_part extent place words ≡ Stops (Some (fault.Word f))
found_fault extent place words f h1 h2 = grind (arith, nat_tests, as_part, as_said)

-- A fault that is there is found.
pub content_fault_complete : (extent : Extent) (place : ℕ) (words : List ℕ) (f : ContentFault)
    → IsContentFault extent place words f → first_content_part extent place words ≡ Stops (Some f)
content_fault_complete extent place words f (designator more wide none e is) =
    rw (wide, e, is) (ap (mark_by place) (designators.none_found more (first_designator more) refl none))
content_fault_complete extent place words f (word g other there is) =
    rw is (found_fault extent place words g other (fault_complete extent place words g there))
