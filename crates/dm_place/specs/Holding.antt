-- Which codewords a mapping matrix holds, whose cells may be kept in any form: ISO/IEC 16022, module placement.
use Rattle.std.specs.Prelude.{◌≡◌, ℕ, ◌+◌, ◌-◌, ◌*◌, ◌/◌, ◌%◌, ◌^◌, ◌<◌, Bool, true, false, List, [], ◌∷◌, get_or}
use Rattle.std.specs.Prelude.{length, map, nat_eq}
use Rattle.std.specs.List.{All}
use Rattle.dm_place.specs.declared.shape.Cell.{Cell}
use Rattle.dm_place.specs.Placement.{shapes, IsPlace}

-- The cell at a row and a column of a matrix of so many columns, whose cells are listed row by row, is dark if it is
-- true.
abbrev pub look_at : List Bool → ℕ → ℕ → ℕ → Bool
look_at cells columns row column = get_or cells (row * columns + column) false

-- Bit 1 of a codeword is its highest bit and bit 8 its lowest; true is 1.
abbrev pub bit_of : List ℕ → ℕ → ℕ → Bool
bit_of words word bit = nat_eq (get_or words word 0 / 2 ^ (8 - bit) % 2) 1

-- A matrix, of which `look` says what cells are dark, holds the bits of codewords if, for every bit of every codeword,
-- the cell at the bit's place is dark exactly where the bit is 1. The colours of the fixed square don't matter here, by
-- a rule of this project.
abbrev pub HoldsBits : ℕ → ℕ → (ℕ → ℕ → Bool) → List ℕ → Type 0
HoldsBits rows columns look words =
    (word bit : ℕ) (cell : Cell) → IsPlace rows columns word bit cell →
    look cell.row cell.column ≡ bit_of words word bit

-- A list has the codewords of a matrix if it has one for each shape, of 0 to 255.
pub record AreWords (rows columns : ℕ) (words : List ℕ) : Type 0 where
  pub count : length words ≡ length (shapes rows columns)
  pub bytes : All (λ w. w < 256) words

-- ---- the codeword in eight cells

-- A truth value is a binary digit.
abbrev pub digit : Bool → ℕ
digit true = 1
digit false = 0

-- This number has these digits after those of the number a, the highest first.
abbrev pub number_of : ℕ → List Bool → ℕ
number_of a [] = a
number_of a (b ∷ bs) = number_of (2 * a + digit b) bs

-- The codeword in these cells has their colours as its bits, the highest first.
abbrev pub word_at : (ℕ → ℕ → Bool) → List Cell → ℕ
word_at look cells = number_of 0 (map (λ x. look x.row x.column) cells)

-- ---- laws

-- Each matrix holds some codewords, whatever its rows and columns and whichever of its cells are dark.
abbrev pub EachMatrixHolds : Type 0
EachMatrixHolds =
    (rows columns : ℕ) (look : ℕ → ℕ → Bool) → (words : List ℕ) × AreWords rows columns words
    × HoldsBits rows columns look words

-- No matrix holds two different lists of codewords.
abbrev pub HeldWordsAreOne : Type 0
HeldWordsAreOne =
    (rows columns : ℕ) (look : ℕ → ℕ → Bool) (u v : List ℕ) → AreWords rows columns u → AreWords rows columns v
    → HoldsBits rows columns look u → HoldsBits rows columns look v → u ≡ v
