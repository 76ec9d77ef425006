-- The spellings of items in a message line, and the text of a message.
use Rattle.std.specs.Prelude.{◌≡◌, ◌≢◌, ◌≤◌, ◌<◌, ◌+◌, ◌*◌, ◌/◌, ◌%◌, ◌==◌, ◌&&◌, nat_le, nat_lt, if◌then◌else◌, ℕ}
use Rattle.std.specs.Prelude.{List, [], ◌∷◌, ◌++◌, flat_map}
use Rattle.dm_symbol.specs.declared.Item.{Item}
use Rattle.dm_symbol.specs.declared.Item.TheVariants.{Byte, Fnc1}

-- A hexadecimal digit of either case has this value.
pub data IsHexDigit (digit value : ℕ) : Type 0 where
  -- The digits 0 to 9 have the values 0 to 9.
  figure : value < 10 → digit ≡ 48 + value → IsHexDigit digit value
  -- The letters A to F have the values 10 to 15.
  upper : 10 ≤ value → value < 16 → digit + 10 ≡ 65 + value → IsHexDigit digit value
  -- The letters a to f have the values 10 to 15.
  lower : 10 ≤ value → value < 16 → digit + 10 ≡ 97 + value → IsHexDigit digit value

-- An item is spelled in one of these ways; 92 is the backslash, 70 is F and 120 is x.
pub data IsSpelling (piece : List ℕ) (item : Item) : Type 0 where
  -- A byte of 32 to 126 other than the backslash stands for itself.
  plain : (b : ℕ) → 32 ≤ b → b ≤ 126 → b ≢ 92 → piece ≡ b ∷ [] → item ≡ Byte b → IsSpelling piece item
  backslash : piece ≡ 92 ∷ 92 ∷ [] → item ≡ Byte 92 → IsSpelling piece item
  fnc1 : piece ≡ 92 ∷ 70 ∷ [] → item ≡ Fnc1 → IsSpelling piece item
  -- Two hexadecimal digits, after the backslash and x, name any byte.
  byte : (first second high low : ℕ) → IsHexDigit first high → IsHexDigit second low
      → piece ≡ 92 ∷ 120 ∷ first ∷ second ∷ [] → item ≡ Byte (16 * high + low) → IsSpelling piece item

-- The line is the spellings of these items, joined.
abbrev pub IsJoining : List ℕ → List Item → Type 0
IsJoining line [] = line ≡ []
IsJoining line (item ∷ items) =
    (piece : List ℕ) × (rest : List ℕ) × IsSpelling piece item × (line ≡ piece ++ rest) × IsJoining rest items

-- The line is joined spellings.
abbrev pub IsJoined : List ℕ → Type 0
IsJoined line = (items : List Item) × IsJoining line items

-- A value below 16 has this digit, in upper case.
abbrev pub upper_digit : ℕ → ℕ
upper_digit value = if nat_lt value 10 then 48 + value else 55 + value

-- A byte of 32 to 126 is written as itself, but the backslash twice; any other byte is written with two upper-case
-- digits, and FNC1 as `\F`.
abbrev pub spelling_of : Item → List ℕ
spelling_of (Byte b) =
    if b == 92 then 92 ∷ 92 ∷ []
    else if nat_le 32 b && nat_le b 126 then b ∷ []
    else 92 ∷ 120 ∷ upper_digit (b / 16) ∷ upper_digit (b % 16) ∷ []
spelling_of Fnc1 = 92 ∷ 70 ∷ []

-- The text of a message is its items, as they are written, joined.
abbrev pub text_of : List Item → List ℕ
text_of items = flat_map spelling_of items
