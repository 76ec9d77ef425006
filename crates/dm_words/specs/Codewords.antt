-- The codewords of ASCII encodation (ISO/IEC 16022, ASCII encodation).
use Rattle.std.specs.Prelude.{ℕ, List, [], ◌∷◌, Option}
use Rattle.dm_words.specs.declared.codeword.Codeword.{Codeword}
use Rattle.dm_words.specs.declared.codeword.Codeword.TheVariants.{Character, Pad, Digits, Latch, Base256, Edifact, Fnc1}
use Rattle.dm_words.specs.declared.codeword.Codeword.TheVariants.{UpperShift, Macro, LeftOut}
use Rattle.dm_words.specs.declared.c40.set.CodeSet.TheVariants.{C40, Text, X12}
use Rattle.dm_words.specs.Rows.{Row, one, each, look_up}

-- In the table of codewords, 1 to 128 are the bytes 0 to 127, and 130 to 229 are the digit pairs 00 to 99. The
-- codewords 0 and 242 to 255 are not used: 254 has no meaning in ASCII encodation, and is the unlatch in a run of C40,
-- Text or X12.
abbrev pub codeword_rows : List (Row Codeword)
codeword_rows =
    each 1 128 0 127 Character ∷
    one 129 Pad ∷
    each 130 229 0 99 Digits ∷
    one 230 (Latch C40) ∷
    one 231 Base256 ∷
    one 232 Fnc1 ∷
    -- Structured append is 233, and reader programming is 234.
    one 233 LeftOut ∷
    one 234 LeftOut ∷
    one 235 UpperShift ∷
    -- Macro 05 is 236, and macro 06 is 237; 53 and 54 are the digits 5 and 6.
    one 236 (Macro 53) ∷
    one 237 (Macro 54) ∷
    one 238 (Latch X12) ∷
    one 239 (Latch Text) ∷
    one 240 Edifact ∷
    -- ECI is 241.
    one 241 LeftOut ∷
    []

-- The first pad of a symbol is this codeword.
abbrev pub first_pad : ℕ
first_pad = 129

-- Digits 00 are this codeword; those of the other pairs follow, up to 99.
abbrev pub first_digits : ℕ
first_digits = 130

-- The latch to Base 256 is this codeword.
abbrev pub base256_latch : ℕ
base256_latch = 231

-- FNC1 is this codeword.
abbrev pub fnc1_word : ℕ
fnc1_word = 232

-- The Upper Shift is this codeword.
abbrev pub upper_shift : ℕ
upper_shift = 235

-- A codeword has this meaning; where it is not used, this is `None`.
abbrev pub codeword_of : ℕ → Option Codeword
codeword_of word = look_up codeword_rows word
