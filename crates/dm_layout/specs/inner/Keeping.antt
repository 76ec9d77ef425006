-- How sizes, grids and codewords of squares are kept: as those of symbols. The views and the invariants of their types
-- cite this.
use Rattle.std.specs.Prelude.{◌≡◌}
use Rattle.dm_layout.specs.symbols.Sizes.{SizeEntry}
use Rattle.dm_layout.specs.symbols.Symbols.{SymbolView}
use Rattle.dm_layout.specs.symbols.Words as symbols
use Rattle.dm_layout.specs.Sizes.{IsRow, row_of_entry, symbol_size}
use Rattle.dm_layout.specs.Grid.{GridView}
use Rattle.dm_layout.specs.Words.{WordsView}

-- A size of a symbol is kept for a square if its row stands in the table of squares, and stands for this size.
pub record IsKept (size : SizeEntry) : Type 0 where
  pub row : IsRow (row_of_entry size)
  pub same : symbol_size (row_of_entry size) ≡ size

-- The grid that is kept as these modules has them as its cells.
abbrev pub kept_grid : SymbolView → GridView
kept_grid symbol = record { size = row_of_entry symbol.size; rows = symbol.rows }

-- The codewords of a square that are kept as these of a symbol are the same.
abbrev pub kept_words : symbols.WordsView → WordsView
kept_words symbol = record { size = row_of_entry symbol.size; list = symbol.list }
