-- The first codewords where FNC1 comes first or second: they are those of ASCII.
use Rattle.std.specs.Prelude.{◌≡◌, ℕ, ◌+◌, List, [], ◌∷◌, ◌++◌, nat_lt, ◌&&◌, if◌then◌else◌}
use Rattle.dm_words.specs.declared.item.Item.{Item}
use Rattle.dm_words.specs.declared.item.Item.TheVariants.{Byte, Fnc1}
use Rattle.dm_words.specs.Ascii.{is_digit, digit_pair}
use Rattle.dm_words.specs.Codewords.{fnc1_word}

-- FNC1, and one codeword of ASCII that may stand before it, are written so at the beginning of these items; none of
-- them is where FNC1 isn't among the first two codewords of their ASCII form.
abbrev pub sign_words : List Item → List ℕ
sign_words [] = []
sign_words (Fnc1 ∷ rest) = fnc1_word ∷ []
sign_words (Byte byte ∷ []) = []
sign_words (Byte byte ∷ Fnc1 ∷ rest) = if nat_lt byte 128 then (byte + 1) ∷ fnc1_word ∷ [] else []
sign_words (Byte byte ∷ Byte next ∷ []) = []
sign_words (Byte byte ∷ Byte next ∷ Fnc1 ∷ rest) =
    if is_digit byte && is_digit next then digit_pair byte next ∷ fnc1_word ∷ [] else []
sign_words (Byte byte ∷ Byte next ∷ Byte third ∷ rest) = []

-- What is written behind the old words begins with these codewords.
abbrev pub KeepsSign : List ℕ → List ℕ → List Item → Type 0
KeepsSign old new items = (rest : List ℕ) × (new ≡ old ++ (sign_words items ++ rest))

-- What is written of these items begins so, where what follows begins so for the items that are left.
abbrev pub PassesSign : List ℕ → List ℕ → List Item → List Item → Type 0
PassesSign old new items left = (after : List ℕ) → KeepsSign new (new ++ after) left
    → KeepsSign old (new ++ after) items
