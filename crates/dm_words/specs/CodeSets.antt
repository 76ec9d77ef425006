-- The code sets of C40, Text and X12 (ISO/IEC 16022, C40, Text and ANSI X12 encodation). Values are 0 to 39.
use Rattle.std.specs.Prelude.{ℕ, List, [], ◌∷◌, Option}
use Rattle.dm_words.specs.declared.c40.set.CodeSet.{CodeSet}
use Rattle.dm_words.specs.declared.c40.set.CodeSet.TheVariants.{C40, Text, X12}
use Rattle.dm_words.specs.declared.c40.set.Shift.{Shift as Shifts}
use Rattle.dm_words.specs.declared.c40.set.Shift.TheVariants.{One, Two, Three}
use Rattle.dm_words.specs.declared.c40.set.Basic.{Basic}
use Rattle.dm_words.specs.declared.c40.set.Basic.TheVariants.{Character, Shift}
use Rattle.dm_words.specs.declared.c40.set.Shifted.{Shifted}
use Rattle.dm_words.specs.declared.c40.set.Shifted.TheVariants.{Character as ShiftedCharacter, Fnc1, UpperShift}
use Rattle.dm_words.specs.Rows.{Row, one, each, look_up}

-- The basic sets give each of the values 0 to 39 its meaning without a shift.
abbrev pub basic_rows : CodeSet → List (Row Basic)
basic_rows C40 =
    one 0 (Shift One) ∷
    one 1 (Shift Two) ∷
    one 2 (Shift Three) ∷
    one 3 (Character 32) ∷
    each 4 13 48 57 Character ∷
    each 14 39 65 90 Character ∷
    []
basic_rows Text =
    one 0 (Shift One) ∷
    one 1 (Shift Two) ∷
    one 2 (Shift Three) ∷
    one 3 (Character 32) ∷
    each 4 13 48 57 Character ∷
    each 14 39 97 122 Character ∷
    []
basic_rows X12 =
    one 0 (Character 13) ∷
    one 1 (Character 42) ∷
    one 2 (Character 62) ∷
    one 3 (Character 32) ∷
    each 4 13 48 57 Character ∷
    each 14 39 65 90 Character ∷
    []

-- The sets of Shift 1, Shift 2 and Shift 3 give the value after that shift its meaning. X12 has no shift.
abbrev pub shifted_rows : CodeSet → Shifts → List (Row Shifted)
shifted_rows X12 shift = []
shifted_rows _ One =
    each 0 31 0 31 ShiftedCharacter ∷
    []
shifted_rows _ Two =
    each 0 14 33 47 ShiftedCharacter ∷
    each 15 21 58 64 ShiftedCharacter ∷
    each 22 26 91 95 ShiftedCharacter ∷
    one 27 Fnc1 ∷
    one 30 UpperShift ∷
    []
shifted_rows C40 Three =
    each 0 31 96 127 ShiftedCharacter ∷
    []
shifted_rows Text Three =
    one 0 (ShiftedCharacter 96) ∷
    each 1 26 65 90 ShiftedCharacter ∷
    each 27 31 123 127 ShiftedCharacter ∷
    []

-- A value has this meaning in the basic set, and none above 39, where this is `None`.
abbrev pub basic_of : CodeSet → ℕ → Option Basic
basic_of set value = look_up (basic_rows set) value

-- A value has this meaning after a shift; where it has none, as above 31, this is `None`.
abbrev pub shifted_of : CodeSet → Shifts → ℕ → Option Shifted
shifted_of set shift value = look_up (shifted_rows set shift) value
