-- Macros (ISO/IEC 16022, 05 and 06 macro characters): one codeword, the first of the symbol but for empty runs, for the
-- header and the trailer of a message.
use Rattle.std.specs.Prelude.{◌≡◌, ℕ, List, [], ◌∷◌, ◌++◌, map}
use Rattle.dm_words.specs.declared.item.Item.{Item}
use Rattle.dm_words.specs.declared.item.Item.TheVariants.{Byte, Fnc1}

-- A macro stands for the header and the trailer of a format whose second digit is this byte, with this text between
-- them. The header is `[)>`, the record separator, the digit 0 and this one, and the group separator; the trailer is
-- the record separator and the end of transmission.
abbrev pub macro_text : ℕ → List Item → List Item
macro_text digit text =
    map Byte (91 ∷ 41 ∷ 62 ∷ 30 ∷ 48 ∷ digit ∷ 29 ∷ []) ++ (text ++ map Byte (30 ∷ 4 ∷ []))

-- The items begin with FNC1.
abbrev pub BeginsFnc1 : List Item → Type 0
BeginsFnc1 [] = ⊥
BeginsFnc1 (Byte byte ∷ rest) = ⊥
BeginsFnc1 (Fnc1 ∷ rest) = Unit {0}

-- The items are a header and a trailer, and FNC1 stands first between them.
abbrev pub FramesFnc1 : List Item → Type 0
FramesFnc1 items = (digit : ℕ) × (text : List Item) × (items ≡ macro_text digit text) × BeginsFnc1 text
