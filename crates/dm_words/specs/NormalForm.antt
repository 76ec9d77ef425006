-- The normal form of a message: the data codewords, without pads, that a profile chooses for it. The choice is a rule
-- of this project; what
-- is written is ASCII or Base 256 (ISO/IEC 16022, ASCII encodation, Base 256 encodation). Bytes are 0 to 255.
use Rattle.std.specs.Prelude.{ℕ, ◌+◌, ◌/◌, ◌%◌, List, [], ◌∷◌, ◌++◌, length, map, Bool, true, false, not, nat_le}
use Rattle.std.specs.Prelude.{nat_lt, ◌&&◌, if◌then◌else◌}
use Rattle.dm_words.specs.declared.item.Item.{Item}
use Rattle.dm_words.specs.declared.item.Item.TheVariants.{Byte, Fnc1}
use Rattle.dm_words.specs.declared.profile.Profile.{Profile}
use Rattle.dm_words.specs.declared.profile.Profile.TheVariants.{Ascii, Shorter}
use Rattle.dm_words.specs.Messages.{byte_of}
use Rattle.dm_words.specs.Ascii.{ascii}
use Rattle.dm_words.specs.Base256.{written}
use Rattle.dm_words.specs.Codewords.{base256_latch}

-- FNC1 is among the items.
abbrev pub has_fnc1 : List Item → Bool
has_fnc1 [] = false
has_fnc1 (Byte byte ∷ rest) = has_fnc1 rest
has_fnc1 (Fnc1 ∷ rest) = true

-- The length field of a segment is written out as one number up to 249 bytes, and else as two. From 1750 bytes on the
-- first number would be more
-- than 255, but no symbol holds that many.
abbrev pub length_numbers : ℕ → List ℕ
length_numbers count =
    if nat_le count 249 then count ∷ [] else (249 + count / 250) ∷ (count % 250) ∷ []

-- The bytes stand in one segment of Base 256 whose latch is the first codeword of the symbol: the latch, the length
-- field and the bytes.
abbrev pub one_segment : List ℕ → List ℕ
one_segment bytes = base256_latch ∷ written 2 (length_numbers (length bytes) ++ bytes)

-- The shorter form of a message is one segment of all its bytes, if it has no FNC1 and the segment has fewer codewords
-- than the ASCII form; else it
-- is the ASCII form. So the ASCII form is taken where both have equally many codewords.
abbrev pub shorter : List Item → List ℕ
shorter message =
    let segment = one_segment (map byte_of message) in
    if not (has_fnc1 message) && nat_lt (length segment) (length (ascii message)) then segment else ascii message

-- Under a profile, the normal form of a message is its ASCII form or its shorter form.
abbrev pub normal_form : Profile → List Item → List ℕ
normal_form Ascii message = ascii message
normal_form Shorter message = shorter message
