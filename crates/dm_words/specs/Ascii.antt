-- ASCII encodation (ISO/IEC 16022, ASCII encodation), and the ASCII form of a message.
use Rattle.std.specs.Prelude.{◌≡◌, ℕ, ◌+◌, ◌-◌, ◌*◌, ◌/◌, ◌%◌, List, [], ◌∷◌, ◌++◌, Bool, IsTrue, Some, nat_le, nat_lt}
use Rattle.std.specs.Prelude.{◌&&◌, if◌then◌else◌}
use Rattle.std.specs.List.{AllByRecursion}
use Rattle.dm_words.specs.declared.item.Item.{Item}
use Rattle.dm_words.specs.declared.item.Item.TheVariants.{Byte, Fnc1}
use Rattle.dm_words.specs.declared.codeword.Codeword.TheVariants as codeword
use Rattle.dm_words.specs.Codewords.{codeword_of, first_digits, fnc1_word, upper_shift}
use Rattle.dm_words.specs.Joined.{Piece, spelled, gathered}

-- A unit of ASCII is a character, two digits, FNC1, or an Upper Shift and a character, whose byte it raises by 128.
pub data IsAsciiUnit (words : List ℕ) (items : List Item) : Type 0 where
  character : (word byte : ℕ) → codeword_of word ≡ Some (codeword.Character byte) → words ≡ word ∷ [] → items
      ≡ Byte byte ∷ [] → IsAsciiUnit words items
  digits : (word number : ℕ) → codeword_of word ≡ Some (codeword.Digits number) → words ≡ word ∷ [] → items
      ≡ Byte (48 + number / 10) ∷ Byte (48 + number % 10) ∷ [] → IsAsciiUnit words items
  fnc1 : (word : ℕ) → codeword_of word ≡ Some codeword.Fnc1 → words ≡ word ∷ [] → items ≡ Fnc1 ∷ []
      → IsAsciiUnit words items
  raised : (shift word byte : ℕ) → codeword_of shift ≡ Some codeword.UpperShift → codeword_of word
      ≡ Some (codeword.Character byte)
      → words ≡ shift ∷ word ∷ [] → items ≡ Byte (byte + 128) ∷ [] → IsAsciiUnit words items

-- The byte is a digit, 0 to 9.
abbrev pub is_digit : ℕ → Bool
is_digit byte = nat_le 48 byte && nat_le byte 57

-- The items are one digit alone.
abbrev pub IsOneDigit : List Item → Type 0
IsOneDigit (Byte byte ∷ []) = IsTrue (is_digit byte)
IsOneDigit _ = ⊥

-- The items begin with a digit.
abbrev pub BeginsWithDigit : List Item → Type 0
BeginsWithDigit (Byte byte ∷ rest) = IsTrue (is_digit byte)
BeginsWithDigit _ = ⊥

-- No unit that is one digit stands directly before a unit that begins with a digit.
abbrev pub IsGreedy : List (Piece (List Item)) → Type 0
IsGreedy [] = Unit {0}
IsGreedy (unit ∷ []) = Unit {0}
IsGreedy (unit ∷ next ∷ rest) = (IsOneDigit unit.what → BeginsWithDigit next.what → ⊥) × IsGreedy (next ∷ rest)

-- The ASCII form of a message is a sequence of units, with no single digit before a digit, whose items, joined, are the
-- message. The standard
-- allows other sequences; that this one is taken is a rule of this project.
pub record IsAscii (message : List Item) (words : List ℕ) : Type 0 where
  pub units : List (Piece (List Item))
  pub each : AllByRecursion (λ unit. IsAsciiUnit unit.words unit.what) units
  pub greedy : IsGreedy units
  pub whole : words ≡ spelled units
  pub items : message ≡ gathered units

-- Two digits, given as bytes, have this codeword.
abbrev pub digit_pair : ℕ → ℕ → ℕ
digit_pair tens ones = first_digits + (10 * (tens - 48) + (ones - 48))

-- A byte of 0 to 255 has these codewords by itself.
abbrev pub single : ℕ → List ℕ
single byte = if nat_lt byte 128 then (byte + 1) ∷ [] else upper_shift ∷ (byte - 127) ∷ []

-- The ASCII form is computed from the left, whose bytes are 0 to 255: where two digits come first, they are taken
-- together.
abbrev pub ascii : List Item → List ℕ
ascii [] = []
ascii (Fnc1 ∷ rest) = fnc1_word ∷ ascii rest
ascii (Byte byte ∷ []) = single byte
ascii (Byte byte ∷ Fnc1 ∷ rest) = single byte ++ ascii (Fnc1 ∷ rest)
ascii (Byte byte ∷ Byte next ∷ rest) =
    if is_digit byte && is_digit next then digit_pair byte next ∷ ascii rest else single byte
    ++ ascii (Byte next ∷ rest)
