-- Rooms for the work with a symbol: for so many rows of modules, codewords, and items of a message.
use Rattle.std.specs.Prelude.{ℕ, ◌*◌, ◌≤◌}
use Rattle.dm_symbol.specs.declared.Extent.{Extent}
use Rattle.dm_symbol.specs.declared.Extent.TheVariants.{Wide}
use Rattle.dm_symbol.specs.Messages.{most_data, most_spelled}
use Rattle.dm_layout.specs.symbols.Sizes.{SizeEntry, codeword_count, most_codewords, most_rows}

-- A room is for no fewer rows and codewords than the smallest symbol has, and for no more than the largest has.
pub record IsRoom (rows words : ℕ) : Type 0 where
  pub some_rows : 10 ≤ rows
  pub some_words : 8 ≤ words
  pub few_rows : rows ≤ most_rows
  pub few_words : words ≤ most_codewords

-- There is room for a symbol of this size, for its codewords, and for the items and marks of what it says in any
-- extent, and not for more items or marks than any symbol says.
pub record HasRoom (rows words items marks : ℕ) (size : SizeEntry) : Type 0 where
  pub room : IsRoom rows words
  pub high : size.rows ≤ rows
  pub long : codeword_count size ≤ words
  pub spelled : (extent : Extent) → most_spelled extent size.data_count ≤ items
  pub most : items ≤ most_spelled Wide most_data
  pub marked : size.data_count ≤ 2 * marks
  pub few_marks : 2 * marks ≤ most_data
