-- Heads: structured append and reader programming (ISO/IEC 16022, structured append, reader programming).
use Rattle.std.specs.Prelude.{◌≡◌, ℕ, ◌+◌, ◌-◌, ◌*◌, ◌/◌, ◌%◌, ◌≤◌, List, [], ◌∷◌, Option, Some, None}
use Rattle.dm_words.specs.declared.contents.head.Appended.{Appended}
use Rattle.dm_words.specs.declared.contents.head.Head.{Head}
use Rattle.dm_words.specs.declared.contents.head.Head.TheVariants as head

-- A symbol of a sequence is one of 2 to 16 symbols, counted from 1, and each half of the file identification is 1 to
-- 254.
pub record IsAppended (symbol : Appended) : Type 0 where
  pub counted : 1 ≤ symbol.index
  pub within : symbol.index ≤ symbol.count
  pub some : 2 ≤ symbol.count
  pub most : symbol.count ≤ 16
  pub high_some : 1 ≤ symbol.file_high
  pub high_most : symbol.file_high ≤ 254
  pub low_some : 1 ≤ symbol.file_low
  pub low_most : symbol.file_low ≤ 254

-- A head is reader programming or a symbol of a sequence; there may be none.
abbrev pub IsHead : Option Head → Type 0
IsHead None = Unit {0}
IsHead (Some head.Programming) = Unit {0}
IsHead (Some (head.Appended symbol)) = IsAppended symbol

-- A head has these codewords: 234 alone for reader programming; 233, the sequence indicator and the two halves of the
-- file identification for a symbol of a sequence. The indicator q says that it is symbol q div 16 + 1 of 17 - q mod 16.
pub data SpellsHead (words : List ℕ) (said : Head) : Type 0 where
  programming : words ≡ 234 ∷ [] → said ≡ head.Programming → SpellsHead words said
  appended : (indicator : ℕ) (symbol : Appended) → IsAppended symbol
      → symbol.index ≡ indicator / 16 + 1 → symbol.count + indicator % 16 ≡ 17
      → words ≡ 233 ∷ indicator ∷ symbol.file_high ∷ symbol.file_low ∷ [] → said ≡ head.Appended symbol
      → SpellsHead words said

-- A head is written as these codewords.
abbrev pub head_words : Option Head → List ℕ
head_words None = []
head_words (Some head.Programming) = 234 ∷ []
head_words (Some (head.Appended symbol)) =
    233 ∷ (16 * (symbol.index - 1) + (17 - symbol.count)) ∷ symbol.file_high ∷ symbol.file_low ∷ []
