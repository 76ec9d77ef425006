-- Where FNC1 stands first or second behind a head, by the first two codewords and how many follow them.
use Rattle.std.specs.Prelude.{ℕ, List, [], ◌∷◌, length, Bool, true, false, Option, Some}
use Rattle.std.specs.Prelude.{◌==◌, ◌&&◌, nat_le, if◌then◌else◌}
use Rattle.dm_words.specs.declared.codeword.Codeword.{Codeword}
use Rattle.dm_words.specs.declared.contents.mark.Mark.{Mark}
use Rattle.dm_words.specs.declared.codeword.Codeword.TheVariants as codeword
use Rattle.dm_words.specs.Codewords.{codeword_of, fnc1_word}

-- Behind a codeword with this meaning, and before so many others, FNC1 is in ASCII encodation: the first codeword is a
-- character, a pair of digits, FNC1 or a macro, and needs no further one; or it begins a run that the end of the symbol
-- ends at once.
abbrev pub is_alone : Option Codeword → ℕ → Bool
is_alone (Some (codeword.Character byte)) after = true
is_alone (Some (codeword.Digits number)) after = true
is_alone (Some codeword.Fnc1) after = true
is_alone (Some (codeword.Macro digit)) after = true
is_alone (Some (codeword.Latch set)) after = after == 0
is_alone (Some codeword.Edifact) after = nat_le after 1
is_alone _ after = false

-- So much is added where there is a mark.
abbrev pub marks_number : List Mark → ℕ
marks_number marks = if length marks == 0 then 0 else 3

-- The words behind a head, or all of them where there is none, have this number.
abbrev pub fnc1_number : List ℕ → ℕ
fnc1_number [] = 1
fnc1_number (first ∷ []) = if first == fnc1_word then 2 else 1
fnc1_number (first ∷ second ∷ after) =
    if first == fnc1_word then 2 else
    if second == fnc1_word && is_alone (codeword_of first) (length after) then 3 else 1
