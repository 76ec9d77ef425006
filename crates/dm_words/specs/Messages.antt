-- Messages: lists of items, and how many items there can be (ISO/IEC 16022, encodation schemes).
use Rattle.std.specs.Prelude.{ℕ, zero, suc, ◌+◌, ◌*◌, ◌<◌, List, All}
use Rattle.dm_layout.specs.Sizes.{most_grid_data}
pub use Rattle.dm_layout.specs.symbols.Sizes.{most_data}
use Rattle.dm_words.specs.declared.extent.Extent.{Extent}
use Rattle.dm_words.specs.declared.extent.Extent.TheVariants.{Usual, Wide}
use Rattle.dm_words.specs.declared.item.Item.{Item}
use Rattle.dm_words.specs.declared.item.Item.TheVariants.{Byte, Fnc1}

-- An item has this byte; FNC1 has none, and counts as 0 here.
abbrev pub byte_of : Item → ℕ
byte_of (Byte byte) = byte
byte_of Fnc1 = 0

-- The byte of an item is 0 to 255.
abbrev pub IsItem : Item → Type 0
IsItem item = byte_of item < 256

-- A message is a list of items, each of which is a byte of 0 to 255 or FNC1. Nothing is said here of how many fit.
abbrev pub IsMessage : List Item → Type 0
IsMessage message = All IsItem message

-- In the usual extent a square of at most 104 rows says at most this many items: two for each data codeword of the
-- largest of these. A macro adds some in the wide one.
abbrev pub most_items : ℕ
most_items = 2 * most_grid_data

-- This many codewords spell at most this many items, and some spell so many: two for each, and in the wide extent,
-- where
-- there are any, seven more, since the codeword of a macro spells nine.
abbrev pub most_spelled : Extent → ℕ → ℕ
most_spelled Usual count = 2 * count
most_spelled Wide zero = 0
most_spelled Wide (suc others) = 2 * suc others + 7
