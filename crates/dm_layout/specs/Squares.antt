-- Laws: what is said of squares is what is said of symbols, for symbols whose rows and columns are alike.
use Rattle.std.specs.Prelude.{◌≡◌, ◌↔◌, ℕ, ◌<◌}
use Rattle.dm_layout.specs.symbols.Sizes as sizes
use Rattle.dm_layout.specs.symbols.Symbols.{IsSymbol}
use Rattle.dm_layout.specs.symbols.Words as codewords
use Rattle.dm_layout.specs.symbols.Holding as holding
use Rattle.dm_layout.specs.Sizes.{SizeRow, IsRow, symbol_size, block_data, block_length}
use Rattle.dm_layout.specs.Grid.{GridView, IsGrid, symbol_modules}
use Rattle.dm_layout.specs.Words.{WordsView, IsWords, symbol_words}
use Rattle.dm_layout.specs.Holds.{Holds, IsLaid}

-- A size of a square stands in the table of all symbols, where it has the same mapping square and the same limit of
-- correction, and each of its blocks the same length.
pub record IsSquare (row : SizeRow) : Type 0 where
  pub size : sizes.IsSize (symbol_size row)
  pub mapping_rows : sizes.mapping_rows (symbol_size row) ≡ row.mapping
  pub mapping_columns : sizes.mapping_columns (symbol_size row) ≡ row.mapping
  pub limit : sizes.limit (symbol_size row) ≡ row.limit
  pub data_part : (b : ℕ) → b < row.blocks → sizes.block_data (symbol_size row) b ≡ block_data row
  pub whole : (b : ℕ) → b < row.blocks → sizes.block_length (symbol_size row) b ≡ block_length row

-- Each size of a square does so.
abbrev pub SizesAreSquares : Type 0
SizesAreSquares = (row : SizeRow) → IsRow row → IsSquare row

-- Grids are the modules of symbols of such sizes.
abbrev pub GridsAreModules : Type 0
GridsAreModules = (grid : GridView) → IsRow grid.size → IsGrid grid ↔ IsSymbol (symbol_modules grid)

-- The codewords of squares are those of symbols of such sizes.
abbrev pub WordsAreCodewords : Type 0
WordsAreCodewords = (words : WordsView) → IsRow words.size → IsWords words ↔ codewords.IsWords (symbol_words words)

-- A grid holds codewords exactly if its modules hold them.
abbrev pub HeldAlike : Type 0
HeldAlike =
    (grid : GridView) (words : WordsView) → IsRow grid.size → words.size ≡ grid.size →
    Holds grid words ↔ holding.Holds (symbol_modules grid) (symbol_words words)

-- Codewords are laid in a grid exactly if they are laid in its modules.
abbrev pub LaidAlike : Type 0
LaidAlike =
    (grid : GridView) (words : WordsView) → IsRow grid.size → words.size ≡ grid.size →
    IsLaid words grid ↔ holding.IsLaid (symbol_words words) (symbol_modules grid)
