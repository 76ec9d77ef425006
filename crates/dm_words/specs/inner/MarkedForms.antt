-- What the private functions that write a content look at.
use Rattle.std.specs.Prelude.{List, [], ◌∷◌, Bool, true, false, Option, Some, None}
use Rattle.dm_words.specs.declared.contents.head.Head.{Head}
use Rattle.dm_words.specs.declared.contents.mark.Mark.{Mark}

-- There is no head and no mark.
abbrev pub is_plain : Option Head → List Mark → Bool
is_plain None [] = true
is_plain None (mark ∷ marks) = false
is_plain (Some head) marks = false
