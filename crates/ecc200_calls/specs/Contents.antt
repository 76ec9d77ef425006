-- Contents as numbers: the head and the marks of what a symbol says.
use Rattle.std.specs.Prelude.{◌≡◌, ℕ, ◌+◌, ◌<◌, List, [], ◌∷◌, map, take, length, Option, Some, None}
use Rattle.dm_symbol.specs.declared.Head.{Head}
use Rattle.dm_symbol.specs.declared.Head.TheVariants.{Programming, Appended}
use Rattle.dm_symbol.specs.declared.Mark.{Mark}
use Rattle.dm_words.specs.Heads.{IsHead}
use Rattle.dm_words.specs.Contents.{ContentView, AreMarks}
use Rattle.ecc200_calls.specs.declared.head.HeadNumbers.{HeadNumbers}
use Rattle.ecc200_calls.specs.declared.mark.MarkNumbers.{MarkNumbers}
use Rattle.ecc200_calls.specs.Items.{number_of}

-- The numbers of no head are all 0. Those of a symbol of a sequence are 1, its place and the count of the symbols, and
-- the two halves of the file identification. Those of reader programming are 2, and else 0.
abbrev pub head_shown : Option Head → HeadNumbers
head_shown None = record { kind = 0; part = 0; parts = 0; file = 0 ∷ 0 ∷ [] }
head_shown (Some (Appended symbol)) =
    record { kind = 1; part = symbol.index; parts = symbol.count; file = symbol.file_high ∷ symbol.file_low ∷ [] }
head_shown (Some Programming) = record { kind = 2; part = 0; parts = 0; file = 0 ∷ 0 ∷ [] }

-- A mark has the number of its assignment and its place.
abbrev pub mark_shown : Mark → MarkNumbers
mark_shown mark = record { number = mark.number; place = mark.place }

-- These are the numbers of a right head, or of none.
pub record AreOfHead (numbers : HeadNumbers) (head : Option Head) : Type 0 where
  pub right : IsHead head
  pub shown : numbers ≡ head_shown head

-- Numbers of marks stand for these marks. Nothing is said here of whether they are right.
abbrev pub marks_of : List MarkNumbers → List Mark
marks_of marks = map (λ (m : MarkNumbers). let mark : Mark = record { place = m.place; number = m.number } in mark)
    marks

-- Of the marks of so many items the one with this index, counted from 0, is the first that is wrong: those before it
-- are marks in order, and with it they are not.
pub record IsFirstWrong (count : ℕ) (marks : List MarkNumbers) (place : ℕ) : Type 0 where
  pub inside : place < length marks
  pub before : AreMarks 0 count (take place (marks_of marks))
  pub wrong : AreMarks 0 count (take (place + 1) (marks_of marks)) → ⊥

-- The content has this head or none, and these are the numbers of its items and of its marks.
pub record IsContentOf (head : Option Head) (numbers : List ℕ) (marks : List MarkNumbers) (content : ContentView) :
    Type 0
  where
    pub head_is : content.head ≡ head
    pub items : map number_of content.items ≡ numbers
    pub marks_are : map mark_shown content.marks ≡ marks
