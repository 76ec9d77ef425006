-- Texts and marks that are written one behind the other say a content.
use Rattle.dm_words.proofs.Names.{◌≡◌, ℕ, ◌+◌, ◌-◌, ◌≤◌, List, [], ◌∷◌, ◌++◌, length, append_assoc, refl, sym, take}
use Rattle.dm_words.proofs.Names.{drop, ap, subst, ◌∙◌, arith, length-append, Some, None, Option, append-nil}
use Rattle.dm_words.proofs.Names.{take_rest, take_all, take-append-drop, length-take, take-add, Wide, Item, Head}
use Rattle.dm_words.proofs.Names.{Mark, Opening, Headed, Framed, codeword_of, eci_word, designator, most_assigned}
use Rattle.dm_words.proofs.Names.{IsHead, head_words, Piece, spelled, whats, AreJoined, ContentView, AreMarks, Said}
use Rattle.dm_words.proofs.Names.{Items, Number, IsContentPart, mark, AreContentParts, said_items, said_marks}
use Rattle.dm_words.proofs.Names.{AreOpened, headed, framed, said_content, Says, ascii_with_marks, macro_text}
use Rattle.dm_words.proofs.Names.{BeginsFnc1, FramesFnc1, pads, padded, IsPlainSaid, ArePads, SaysThenPads, AreSaid}
use Rattle.dm_words.proofs.Names.{view_of, NoUnlatchFirst, ArePartsWritten, nat_tests}
use Rattle.dm_words.proofs.MarkedCosts.{IsForth}
use Rattle.dm_words.specs.declared.codeword.Codeword.TheVariants as codeword
use Rattle.dm_words.specs.Plain as plainly
use Rattle.dm_words.proofs.AsciiWords.{AreItems, pads_end}
use Rattle.dm_words.proofs.Designators.{designator_says}
use Rattle.dm_words.proofs.Frames.{frames_not}
use Rattle.dm_words.proofs.Heads.{head_says}
use Rattle.dm_words.proofs.ContentForms.{parts_of, free_joined, all_said}
use Rattle.dm_words.proofs.PadWords.{filled, pads_are, pads_begin}
use Rattle.dm_words.proofs.Pieces.{spelled-append, whats-append, joined-append}
use Rattle.dm_words.proofs.SpelledContents.{as_said, said_words, same_items, no_marks, said_joined, plainly_joined}
use Rattle.dm_words.proofs.SpelledContents.{opened_plain}

-- Nothing is written yet.
pub nothing_said : (total : ℕ) (base : List ℕ) (seen : ℕ) → AreSaid total base base seen [] []
nothing_said total base seen = record {
  parts = [];
  whole = sym (append-nil base);
  items_are = refl;
  marks_are = refl;
  right = λ after fills first. tt;
  plain = λ after fills first. tt;
}

-- What is said, and more behind it.
items-append : (a b : List Said) → said_items (a ++ b) ≡ said_items a ++ said_items b
items-append [] b = refl
items-append (Items items ∷ a) b = cc (items-append a b, append_assoc items (said_items a) (said_items b))
items-append (Number number ∷ a) b = items-append a b

marks-append : (seen : ℕ) (a b : List Said) → said_marks seen (a ++ b)
    ≡ said_marks seen a ++ said_marks (seen + length (said_items a)) b
marks-append seen [] b = (let e : seen ≡ seen + 0 = omega arith in ap (λ (n : ℕ). said_marks n b) e)
marks-append seen (Items items ∷ a) b = grind (arith, said_items, length-append, marks-append (seen + length items) a b)
marks-append seen (Number number ∷ a) b = grind (arith, nat_tests, marks-append seen a b)

-- More parts are written.
said_more : (total : ℕ) (base old new : List ℕ) (seen : ℕ) (items : List Item) (marks : List Mark)
    (more : List (Piece Said))
    → AreSaid total base old seen items marks → new ≡ old ++ spelled more
    → ((after : List ℕ) → length new + length after ≡ total → NoUnlatchFirst after
    → AreJoined (IsContentPart Wide) (length old + 1) more after × AreJoined IsPlainSaid (length old + 1) more after
    × NoUnlatchFirst (spelled more ++ after))
    → AreSaid total base new seen (items ++ said_items (whats more))
    (marks ++ said_marks (seen + length items) (whats more))
said_more total base old new seen items marks more w is right = record {
  parts = w.parts ++ more;
  whole = cc (w.whole, append_assoc base (spelled w.parts) (spelled more), spelled-append w.parts more);
  items_are = cc (w.items_are, items-append (whats w.parts) (whats more), whats-append w.parts more);
  marks_are = cc (w.marks_are, w.items_are, marks-append seen (whats w.parts) (whats more), whats-append w.parts more);
  right = λ after fills first.
      (let r = right after fills first in
      joined-append (IsContentPart Wide) (length base + 1) w.parts more after
      (w.right (spelled more ++ after) (fills_so after fills) r.2) (rw place at r.0));
  plain = λ after fills first.
      (let r = right after fills first in
      joined-append IsPlainSaid (length base + 1) w.parts more after
      (w.plain (spelled more ++ after) (fills_so after fills) r.2) (rw place at r.1));
} where
  place : length old + 1 ≡ length base + 1 + length (spelled w.parts)
  place = omega (arith, ap length w.whole, length-append base (spelled w.parts))

  fills_so : (after : List ℕ) → length new + length after ≡ total
      → length old + length (spelled more ++ after) ≡ total
  fills_so after fills = omega (
    arith,
    fills,
    ap length is,
    length-append old (spelled more),
    length-append (spelled more) after,
  )

-- The parts of a text are written.
pub text_said : (total : ℕ) (base old new : List ℕ) (seen : ℕ) (items text : List Item) (marks : List Mark)
    → AreSaid total base old seen items marks → ArePartsWritten Wide total old new text
    → AreSaid total base new seen (items ++ text) marks
text_said total base old new seen items text marks w t =
    let more = as_said t.parts in
    let words : spelled more ≡ spelled t.parts = said_words t.parts in
    let a =
    said_more _ _ _ new _ _ _ more w (t.whole ∙ ap (λ (l : List ℕ). old ++ l) (sym words)) (λ after fills first. (
      said_joined Wide (length old + 1) t.parts after (t.right after fills first),
      plainly_joined (length old + 1) t.parts after (t.plain after fills first),
      subst (λ (l : List ℕ). NoUnlatchFirst (l ++ after)) (sym words) (t.begins after first),
    )) in
    subst (λ (l : List Item). AreSaid total base new seen (items ++ l) marks) (same_items t.parts ∙ sym t.items_are)
    (rw (ap (λ (l : List Mark). marks ++ l) (no_marks (seen + length items) t.parts) ∙ append-nil marks) at a)

-- A mark is written.
pub mark_said : (total : ℕ) (base old new : List ℕ) (seen number : ℕ) (items : List Item) (marks : List Mark)
    → AreSaid total base old seen items marks → number ≤ most_assigned → new ≡ old ++ (eci_word ∷ designator number)
    → AreSaid total base new seen items
    (marks ++ (let m : Mark = record { place = seen + length items; number = number } in m) ∷ [])
mark_said total base old new seen number items marks w assigned is =
    let p : Piece Said = record { words = eci_word ∷ designator number; what = Number number } in
    let more = p ∷ [] in
    let all : spelled more ≡ eci_word ∷ designator number = append-nil (eci_word ∷ designator number) in
    let a = said_more _ _ _ new _ _ _ more w (is ∙ ap (λ (l : List ℕ). old ++ l) (sym all)) (λ after fills first. (
      (mark (designator number) number refl (designator_says number assigned) refl refl, tt),
      (plainly.mark (designator number) number (designator_says number assigned) refl refl, tt),
      λ e. absurd (omega (arith, e)),
    )) in
    rw (append-nil items) at a

-- A turn of the loop writes the items up to a mark, and the mark.
pub texts_turn : (total : ℕ) (base old new newer : List ℕ) (seen : ℕ) (items : List Item) (marks : List Mark)
    (k from place number behind end : ℕ)
    → IsForth seen items marks k from place number behind → end ≡ place - seen
    → AreSaid total base old seen (take from items) (take k marks)
    → ArePartsWritten Wide total old new (take (end - from) (drop from items))
    → newer ≡ new ++ (eci_word ∷ designator number)
    → AreSaid total base newer seen (take end items) (take (k + 1) marks)
texts_turn total base old new newer seen items marks k from place number behind end f is w t added =
    let sum : from + (end - from) ≡ end = omega (arith, f.later, is) in
    let more : take from items ++ take (end - from) (drop from items) ≡ take end items =
    sym (take-add from (end - from) items) ∙ ap (λ (n : ℕ). take n items) sum in
    let text = subst (λ (l : List Item). AreSaid total base new seen l (take k marks)) more
    (text_said total base old new seen (take from items) (take (end - from) (drop from items)) (take k marks) w t) in
    let there : length (take end items) ≡ place - seen = omega (arith, length-take end items, is, f.within) in
    let one : take k marks ++ (let m : Mark = record { place = seen + length (take end items); number = number } in m)
    ∷ [] ≡ take (k + 1) marks = cc in
    rw one at (mark_said total base new newer seen number (take end items) (take k marks) text f.assigned added)

-- Behind the last mark the other items are written.
pub texts_end : (total : ℕ) (base old new : List ℕ) (seen : ℕ) (items : List Item) (marks : List Mark) (k from : ℕ)
    → length marks ≤ k → AreSaid total base old seen (take from items) (take k marks)
    → ArePartsWritten Wide total old new (take (length items - from) (drop from items))
    → AreSaid total base new seen items marks
texts_end total base old new seen items marks k from le w t =
    let more : take from items ++ take (length items - from) (drop from items) ≡ items =
    ap (λ (l : List Item). take from items ++ l) (take_rest items from) ∙ take-append-drop from items in
    subst (λ (l : List Mark). AreSaid total base new seen items l) (take_all k marks le) (rw more at (text_said total
    base old new seen (take from items) (take (length items - from) (drop from items)) (take k marks) w t))

-- The items in ASCII from mark to mark, and the marks, are written.
pub form_said : (total : ℕ) (base new : List ℕ) (items : List Item) (marks : List Mark) → AreItems items
    → AreMarks 0 (length items) marks → new ≡ base ++ ascii_with_marks 0 items marks
    → AreSaid total base new 0 items marks
form_said total base new items marks fit are is =
    let whole : length items ≡ 0 + length items = omega arith in
    let h = parts_of 0 items marks fit (subst (λ (k : ℕ). AreMarks 0 k marks) whole are) in
    record {
      parts = h.parts;
      whole = is ∙ ap (λ (l : List ℕ). base ++ l) h.whole;
      items_are = sym h.items_are;
      marks_are = sym h.marks_are;
      right = λ after fills first.
          free_joined (IsContentPart Wide) (length base + 1) h.parts after (all_said h.parts h.free);
      plain = λ after fills first. free_joined IsPlainSaid (length base + 1) h.parts after h.free;
    }

-- ---- the whole

-- What is written, with pads, is parts of a content behind the base.
record IsPadded (count : ℕ) (base new : List ℕ) (seen : ℕ) (items : List Item) (marks : List Mark) : Type 0 where
  more : List ℕ
  whole : padded new count ≡ base ++ more
  said : List Said
  parts : AreContentParts Wide (length base + 1) more said
  items_are : items ≡ said_items said
  marks_are : marks ≡ said_marks seen said
  plain : AreJoined IsPlainSaid (length base + 1) parts.parts parts.after
  pads_are : ArePads (padded new count) parts.after

padded_parts : (count : ℕ) (base new : List ℕ) (seen : ℕ) (items : List Item) (marks : List Mark)
    → AreSaid count base new seen items marks → length new ≤ count → IsPadded count base new seen items marks
padded_parts count base new seen items marks w fits =
    let after = pads (length new + 1) (count - length new) in
    let parts : AreContentParts Wide (length base + 1) (spelled w.parts ++ after) (whats w.parts) = record {
      parts = w.parts;
      after = after;
      joined = w.right after (filled new count fits) (pads_begin (length new + 1) (count - length new));
      ended = pads_end (length new + 1) (count - length new);
      whole = refl;
      said_are = refl;
    } in
    record {
      more = spelled w.parts ++ after;
      whole = ap (λ (l : List ℕ). l ++ after) w.whole ∙ append_assoc base (spelled w.parts) after;
      said = whats w.parts;
      parts = parts;
      items_are = w.items_are;
      marks_are = w.marks_are;
      plain = w.plain after (filled new count fits) (pads_begin (length new + 1) (count - length new));
      pads_are = pads_are new count;
    }

-- The words say a content in plain parts, with pads behind them.
pub record SaysPlainly (words : List ℕ) (l : ContentView) : Type 0 where
  pub spells : Says Wide words l
  pub plain : AreJoined IsPlainSaid spells.place spells.parts.parts spells.parts.after
  pub macro_first : (digit : ℕ) → spells.opening ≡ Framed digit → spells.place ≡ 2
  pub no_fnc1 : (digit : ℕ) → spells.opening ≡ Framed digit → FramesFnc1 l.items → ⊥
  pub pads_are : ArePads words spells.parts.after

-- So they say it, with pads behind them.
pub says_so : (words : List ℕ) (l : ContentView) → SaysPlainly words l → SaysThenPads Wide words l
says_so words l p = record { says = p.spells; pads = p.pads_are }

-- An opening and parts say a content, with pads behind them.
says_padded : (words : List ℕ) (l : ContentView) (opening : Opening) (place : ℕ) (more : List ℕ) (said : List Said)
    → AreOpened Wide words opening place more → (parts : AreContentParts Wide place more said)
    → l ≡ said_content opening said
    → ((digit : ℕ) → opening ≡ Framed digit → (place ≡ 2) × (FramesFnc1 l.items → ⊥))
    → AreJoined IsPlainSaid place parts.parts parts.after → ArePads words parts.after → SaysPlainly words l
says_padded words l opening place more said opened parts is first plain pads = record {
  spells = record {
    opening = opening;
    place = place;
    more = more;
    opened = opened;
    said = said;
    parts = parts;
    content_is = is;
  };
  plain = plain;
  macro_first = λ digit e. (first digit e).0;
  no_fnc1 = λ digit e. (first digit e).1;
  pads_are = pads;
}

-- A content is its head, items and marks.
view_is : (head : Option Head) (items other : List Item) (marks those : List Mark) → items ≡ other → marks ≡ those
    → view_of head items marks ≡ view_of head other those
view_is head items other marks those i m = cc

-- Behind nothing they say a content without a head.
pub says_plain : (count : ℕ) (new : List ℕ) (items : List Item) (marks : List Mark)
    → AreSaid count [] new 0 items marks → length new ≤ count
    → SaysPlainly (padded new count) (view_of None items marks)
says_plain count new items marks w fits =
    let p = padded_parts count [] new 0 items marks w fits in
    let here : AreContentParts Wide 1 p.more p.said = p.parts in
    says_padded _ _ _ 1 _ _ (opened_plain _ _ _ _ p.whole here) here (view_is None items (said_items p.said) _ _
    p.items_are p.marks_are) (λ digit e. absurd cc) p.plain p.pads_are

-- Behind a head they say a content with it.
says_headed : (count : ℕ) (new : List ℕ) (head : Head) (items : List Item) (marks : List Mark) → IsHead (Some head)
    → AreSaid count (head_words (Some head)) new 0 items marks → length new ≤ count
    → SaysPlainly (padded new count) (view_of (Some head) items marks)
says_headed count new head items marks right w fits =
    let first = head_words (Some head) in
    let p = padded_parts count first new 0 items marks w fits in
    says_padded (padded new count) (view_of (Some head) items marks) (Headed head) (length first + 1) p.more p.said
    (record {
      first = first;
      is_opening = headed head refl (head_says head right) refl;
      whole = p.whole;
      place_is = omega arith;
    }) p.parts (view_is (Some head) items (said_items p.said) _ _ p.items_are p.marks_are) (λ digit e. absurd cc)
    p.plain p.pads_are

-- Behind the codewords of a head, or none, they say a content with that.
pub says_by_head : (count : ℕ) (base new : List ℕ) (head : Option Head) (items : List Item) (marks : List Mark)
    → IsHead head → base ≡ head_words head → AreSaid count base new 0 items marks → length new ≤ count
    → SaysPlainly (padded new count) (view_of head items marks)
says_by_head count base new None items marks right is w fits = says_plain count new items marks (rw is at w) fits
says_by_head count base new (Some head) items marks right is w fits =
    says_headed count new head items marks right (rw is at w) fits

-- Behind a macro they say a content whose items it frames.
pub says_framed : (count word digit : ℕ) (base new : List ℕ) (items text : List Item) (marks : List Mark)
    → codeword_of word ≡ Some (codeword.Macro digit) → items ≡ macro_text digit text → base ≡ word ∷ []
    → AreSaid count base new 7 text marks → (BeginsFnc1 text → ⊥) → length new ≤ count
    → SaysPlainly (padded new count) (view_of None items marks)
says_framed count word digit base new items text marks k is one w none fits =
    let p = padded_parts count (word ∷ []) new 7 text marks (rw one at w) fits in
    says_padded (padded new count) (view_of None items marks) (Framed digit) 2 p.more p.said
    (record {
      first = word ∷ [];
      is_opening = framed digit refl k
          refl;
      whole = p.whole;
      place_is = refl;
    }) p.parts (view_is None items (macro_text digit (said_items p.said)) _ _ (is ∙ ap (macro_text digit)
    p.items_are) p.marks_are) (λ other e. (refl, frames_not _ digit text is none)) p.plain p.pads_are
