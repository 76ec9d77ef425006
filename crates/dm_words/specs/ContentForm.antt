-- The normal form of a content: its data codewords, without pads, as a profile chooses for it (ISO/IEC 16022, ECI
-- encodation, structured append, reader programming). The choice is a rule of this project.
use Rattle.std.specs.Prelude.{ℕ, ◌-◌, List, [], ◌∷◌, ◌++◌, take, drop, Option, Some, None}
use Rattle.dm_words.specs.declared.item.Item.{Item}
use Rattle.dm_words.specs.declared.contents.head.Head.{Head}
use Rattle.dm_words.specs.declared.contents.mark.Mark.{Mark}
use Rattle.dm_words.specs.declared.profile.Profile.{Profile}
use Rattle.dm_words.specs.Ascii.{ascii}
use Rattle.dm_words.specs.Designators.{eci_word, designator}
use Rattle.dm_words.specs.Heads.{head_words}
use Rattle.dm_words.specs.Contents.{ContentView}
use Rattle.dm_words.specs.NormalForm.{normal_form}

-- A mark is written as ECI and the designator of its number.
abbrev pub mark_words : Mark → List ℕ
mark_words mark = eci_word ∷ designator mark.number

-- Behind so many items, further items with marks are written in ASCII from mark to mark, and each mark at its place. So
-- no pair of digits is taken across a mark.
abbrev pub ascii_with_marks : ℕ → List Item → List Mark → List ℕ
ascii_with_marks before items [] = ascii items
ascii_with_marks before items (mark ∷ marks) =
    ascii (take (mark.place - before) items)
    ++ (mark_words mark ++ ascii_with_marks mark.place (drop (mark.place - before) items) marks)

-- The normal form of a content without a head and marks is that of its items. That of another one is, under each
-- profile, the codewords of its head, and its items with their marks in ASCII.
abbrev pub form_by : Profile → Option Head → List Item → List Mark → List ℕ
form_by profile None items [] = normal_form profile items
form_by profile None items (mark ∷ marks) = ascii_with_marks 0 items (mark ∷ marks)
form_by profile (Some head) items marks = head_words (Some head) ++ ascii_with_marks 0 items marks

-- Under a profile, this is the normal form of a content that is right.
abbrev pub content_form : Profile → ContentView → List ℕ
content_form profile content = form_by profile content.head content.items content.marks
