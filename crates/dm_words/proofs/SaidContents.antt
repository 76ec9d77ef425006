-- What codewords say is a content: bytes of 0 to 255, and marks in order.
use Rattle.dm_words.proofs.Names.{◌≡◌, ℕ, ◌+◌, ◌≤◌, List, [], ◌∷◌, ◌++◌, length, sym, subst, arith, length-append}
use Rattle.dm_words.proofs.Names.{AllByRecursion, All-from_recursion, Extent, Opening, IsItem, Piece, spelled, whats}
use Rattle.dm_words.proofs.Names.{AreJoined, most_assigned, IsDesignator, IsHead, ContentView, AreMarks, IsContent}
use Rattle.dm_words.proofs.Names.{Said, Items, Number, IsContentPart, part, mark, said_items, said_marks, IsOpening}
use Rattle.dm_words.proofs.Names.{opening_head, opening_items, closing_items, said_content, AreContentParts, Says}
use Rattle.dm_words.proofs.Names.{framed, headed, nat_tests, plain}
use Rattle.dm_words.proofs.AsciiWords.{AreItems}
use Rattle.dm_words.proofs.ItemBytes.{part_items, macro_byte}
use Rattle.dm_words.proofs.Heads.{head_only}
use Rattle.dm_words.proofs.Marks.{more_items, lower}
use Rattle.dm_words.proofs.Pieces.{all-append}
use Rattle.dm_words.proofs.Openings.{said_behind, frame_macro}

-- What a part says is right: bytes of 0 to 255, or the number of an assignment.
abbrev IsRight : Said → Type 0
IsRight (Items items) = AreItems items
IsRight (Number number) = number ≤ most_assigned

-- A designator says the number of an assignment.
pub assigned : (words : List ℕ) (number : ℕ) → IsDesignator words number → number ≤ most_assigned
assigned words number h1 = grind arith

-- What a part says is right.
part_right : (extent : Extent) (place : ℕ) (words after : List ℕ) (said : Said)
    → IsContentPart extent place words after said → IsRight said
part_right extent place words after said (part items p is) = rw is (part_items extent place words after items p)
part_right extent place words after said (mark d number wide e whole is) = rw is (assigned d number e)

-- What parts say is right.
parts_right : (extent : Extent) (place : ℕ) (ps : List (Piece Said)) (after : List ℕ)
    → AreJoined (IsContentPart extent) place ps after
    → AllByRecursion IsRight (whats ps)
parts_right extent place [] after h = tt
parts_right extent place (p ∷ ps) after h = (
  part_right extent place p.words (spelled ps ++ after) p.what h.0,
  parts_right extent (place + length p.words) ps after h.1,
)

-- The items that are said are items.
items_right : (said : List Said) → AllByRecursion IsRight said → AreItems (said_items said)
items_right [] h = tt
items_right (Items items ∷ said) h = all-append IsItem items (said_items said) h.0 (items_right said h.1)
items_right (Number number ∷ said) h = items_right said h.1

-- The marks that are said are in order.
marks_right : (before : ℕ) (said : List Said) → AllByRecursion IsRight said
    → AreMarks before (before + length (said_items said)) (said_marks before said)
marks_right before [] h = omega arith
marks_right before (Items items ∷ said) h =
    let count : (before + length items) + length (said_items said) ≡ before + length (items ++ said_items said) =
    omega (arith, length-append items (said_items said)) in
    lower (before + length items) before (before + length (items ++ said_items said))
    (said_marks (before + length items) said) (rw count at (marks_right (before + length items) said h.1)) (omega arith)
marks_right before (Number number ∷ said) h = (omega arith, h.0, marks_right before said h.1)

-- The marks that parts of a content say are in order.
pub said_in_order : (extent : Extent) (before place : ℕ) (words : List ℕ) (said : List Said)
    → AreContentParts extent place words said
    → AreMarks before (before + length (said_items said)) (said_marks before said)
said_in_order extent before place words said p = grind (arith, nat_tests, marks_right, parts_right)

-- An opening is right: its head, and the items before and behind those of the parts.
record IsRightOpening (opening : Opening) : Type 0 where
  head : IsHead (opening_head opening)
  before : AreItems (opening_items opening)
  behind : AreItems (closing_items opening)

-- An opening that is there is right.
opening_right : (extent : Extent) (words more : List ℕ) (opening : Opening) → IsOpening extent words more opening
    → IsRightOpening opening
opening_right extent words more opening (headed head wide s is) = grind (arith, nat_tests, head_only)
opening_right extent words more opening (framed digit wide f is) =
    let m = frame_macro words digit f in
    let small = macro_byte m.0 digit m.1 in
    rw is (grind (arith, nat_tests, small))
opening_right extent words more opening (plain none no_head no_frame is) = rw is (grind (arith, nat_tests))

-- What a right opening and right parts say is a content.
said_right : (opening : Opening) (said : List Said) → IsRightOpening opening → AllByRecursion IsRight said
    → IsContent (said_content opening said)
said_right opening said o r =
    let before = opening_items opening in
    let middle = said_items said in
    let behind = closing_items opening in
    let le : length before + length middle ≤ length (before ++ (middle ++ behind)) =
    omega (arith, length-append before (middle ++ behind), length-append middle behind) in
    subst IsContent (sym (said_behind opening said)) (record {
      head = o.head;
      items = All-from_recursion IsItem (before
          ++ (middle ++ behind))
          (all-append IsItem before (middle ++ behind) o.before
          (all-append IsItem middle behind (items_right said r) o.behind));
      marks = lower (length before) 0 (length (before ++ (middle ++ behind))) (said_marks (length before) said)
          (more_items (length before) (length before + length middle) (length (before ++ (middle ++ behind)))
          (said_marks (length before) said) (marks_right (length before) said r) le)
          (omega arith);
    })

-- What codewords say is a content.
pub said_is_content : (extent : Extent) (words : List ℕ) (l : ContentView) → Says extent words l → IsContent l
said_is_content extent words l s =
    let right =
    subst (AllByRecursion IsRight) (sym s.parts.said_are)
    (parts_right extent s.place s.parts.parts s.parts.after s.parts.joined) in
    subst IsContent (sym s.content_is) (said_right _ s.said (opening_right _ _ _ _ s.opened.is_opening) right)
