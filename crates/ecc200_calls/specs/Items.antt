-- Messages as lists of numbers.
use Rattle.std.specs.Prelude.{ℕ, ◌<◌, ◌≤◌, List, length, get_or}
use Rattle.dm_symbol.specs.declared.Item.{Item}
use Rattle.dm_symbol.specs.declared.Item.TheVariants.{Byte, Fnc1}

-- The number of a byte is the byte itself, and that of FNC1 is 256. Those of a message are the numbers of its items, in
-- order.
abbrev pub number_of : Item → ℕ
number_of (Byte byte) = byte
number_of Fnc1 = 256

-- The first of the numbers that stands for no item has this index, counted from 0.
pub record IsFirstForeign (numbers : List ℕ) (place : ℕ) : Type 0 where
  pub inside : place < length numbers
  pub foreign : 256 < get_or numbers place 0
  pub first : (index : ℕ) → index < place → get_or numbers index 0 ≤ 256
