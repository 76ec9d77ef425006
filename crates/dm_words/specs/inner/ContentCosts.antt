-- What it costs to write items with marks. Only ASCII says a mark, so each text up to a mark is written before the
-- codewords of the mark and of all that follows it.
use Rattle.std.specs.Prelude.{◌≡◌, ℕ, ◌+◌, ◌-◌, ◌<◌, ◌≤◌, List, [], ◌∷◌, ◌++◌, length, take, drop, get_or, Option}
use Rattle.std.specs.Prelude.{Some, None}
use Rattle.dm_words.specs.declared.extent.Extent.TheVariants.{Wide}
use Rattle.dm_words.specs.declared.item.Item.{Item}
use Rattle.dm_words.specs.declared.codeword.Codeword.TheVariants as codeword
use Rattle.dm_words.specs.declared.contents.head.Head.{Head}
use Rattle.dm_words.specs.declared.contents.mark.Mark.{Mark}
use Rattle.dm_words.specs.Codewords.{codeword_of}
use Rattle.dm_words.specs.Heads.{head_words}
use Rattle.dm_words.specs.Joined.{Piece, spelled, AreJoined}
use Rattle.dm_words.specs.inner.Scan.Walk.{whats}
use Rattle.dm_words.specs.Contents.{ContentView, AreMarks, Said, IsContentPart, said_items, said_marks}
use Rattle.dm_words.specs.ContentForm.{mark_words}
use Rattle.dm_words.specs.Macros.{macro_text, BeginsFnc1}
use Rattle.dm_words.specs.Plain.{IsPlainSaid}
use Rattle.dm_words.specs.inner.Costs.{at_end, before_words, parts_cost}
use Rattle.dm_words.specs.inner.Ways.{IsMacroOf, inner_text}
use Rattle.dm_words.specs.inner.Written.{NoUnlatchFirst}

-- Behind so many items, further items with marks cost this much.
abbrev pub marked_cost : ℕ → List Item → List Mark → ℕ
marked_cost seen items [] = parts_cost (at_end Wide) items
marked_cost seen items (mark ∷ marks) =
    let count = mark.place - seen in
    parts_cost (before_words (length (mark_words mark) + marked_cost mark.place (drop count items) marks))
    (take count items)

-- Behind the items before the first mark, which stand behind so many, this many codewords follow: of the mark, and of
-- what stands behind it.
abbrev pub behind_first : ℕ → List Item → List Mark → ℕ
behind_first seen items [] = 0
behind_first seen items (mark ∷ marks) =
    length (mark_words mark) + marked_cost mark.place (drop (mark.place - seen) items) marks

-- The items before the first mark, or all.
abbrev pub first_text : ℕ → List Item → List Mark → List Item
first_text seen items [] = items
first_text seen items (mark ∷ marks) = take (mark.place - seen) items

-- They end at this index of the items.
abbrev pub first_end : ℕ → List Item → List Mark → ℕ
first_end seen items [] = length items
first_end seen items (mark ∷ marks) = mark.place - seen

-- Behind so many items, this many codewords follow the items before each mark.
abbrev pub AreBehind : ℕ → List Item → List Mark → List ℕ → Type 0
AreBehind seen items marks behind = (k : ℕ) → k < length marks
    → get_or behind k 0 ≡ behind_first seen items (drop k marks)

-- A head, items and marks are a content.
abbrev pub view_of : Option Head → List Item → List Mark → ContentView
view_of head items marks = record { head = head; items = items; marks = marks }

-- No way to write a content costs less: not its head and its parts, nor a macro and the text in it, where there is no
-- head, each mark stands in that text, and FNC1 doesn't come first in it.
pub record IsLeastContentCost (content : ContentView) (cost : ℕ) : Type 0 where
  pub parts : cost ≤ length (head_words content.head) + marked_cost 0 content.items content.marks
  pub framed : (word digit : ℕ) (text : List Item) → codeword_of word ≡ Some (codeword.Macro digit)
      → content.head ≡ None → content.items ≡ macro_text digit text → (BeginsFnc1 text → ⊥)
      → AreMarks 7 (7 + length text) content.marks → cost ≤ 1 + marked_cost 7 text content.marks

-- The codeword is a macro for the header and the trailer of the items of a content, and each mark stands between them.
pub record IsContentMacro (content : ContentView) (word : ℕ) : Type 0 where
  pub no_head : content.head ≡ None
  pub is_macro : IsMacroOf Wide content.items word
  pub marks : AreMarks 7 (7 + length (inner_text content.items)) content.marks

-- There is no such macro.
abbrev pub HasNoContentMacro : ContentView → Type 0
HasNoContentMacro content = (word digit : ℕ) (text : List Item) → codeword_of word ≡ Some (codeword.Macro digit)
    → content.head ≡ None → content.items ≡ macro_text digit text → (BeginsFnc1 text → ⊥)
    → AreMarks 7 (7 + length text) content.marks → ⊥

-- By a macro this many items are seen before the text that is written, and else none.
abbrev pub seen_by : Option ℕ → ℕ
seen_by None = 0
seen_by (Some word) = 7

-- To write a content by this macro, or by none, costs at most this much.
abbrev pub IsContentWay : ContentView → Option ℕ → ℕ → Type 0
IsContentWay content None cost = length (head_words content.head) + marked_cost 0 content.items content.marks ≤ cost
IsContentWay content (Some word) cost = IsContentMacro content word ×
    (1 + marked_cost 7 (inner_text content.items) content.marks ≤ cost)

-- Parts that say this were written behind the base, in a symbol that has `total` data codewords, whatever follows that
-- is no unlatch.
pub record AreSaid (total : ℕ) (base new : List ℕ) (seen : ℕ) (items : List Item) (marks : List Mark) : Type 0 where
  pub parts : List (Piece Said)
  pub whole : new ≡ base ++ spelled parts
  pub items_are : items ≡ said_items (whats parts)
  pub marks_are : marks ≡ said_marks seen (whats parts)
  pub right : (after : List ℕ) → length new + length after ≡ total → NoUnlatchFirst after
      → AreJoined (IsContentPart Wide) (length base + 1) parts after
  pub plain : (after : List ℕ) → length new + length after ≡ total → NoUnlatchFirst after
      → AreJoined IsPlainSaid (length base + 1) parts after
