-- Which codewords a grid holds, and the grid in which codewords are laid: as modules hold codewords, and as these are
-- laid in modules.
use Rattle.std.specs.Prelude.{◌≡◌}
use Rattle.dm_place.specs.Holding.{HoldsBits}
pub use Rattle.dm_place.specs.Holding.{bit_of}
use Rattle.dm_layout.specs.Grid.{GridView, IsGrid}
use Rattle.dm_layout.specs.Words.{WordsView, IsWords}
use Rattle.dm_layout.specs.Border.{mapped_cell, border_fault_count, HasFixedSquare}

-- A grid holds codewords if both are of one size of the table of squares, and its modules hold the codewords. That this
-- is what is said of the modules of a symbol is a law, in `Squares.antt`.
pub record Holds (grid : GridView) (words : WordsView) : Type 0 where
  pub square : IsGrid grid
  pub codewords : IsWords words
  pub same_size : words.size ≡ grid.size
  pub bits : HoldsBits grid.size.mapping grid.size.mapping (mapped_cell grid) words.list

-- Codewords are laid in a grid if they are laid in its modules.
pub record IsLaid (words : WordsView) (grid : GridView) : Type 0 where
  pub holds : Holds grid words
  pub border : border_fault_count grid ≡ 0
  pub fixed_square : HasFixedSquare grid

-- ---- laws

-- Each grid holds some codewords.
abbrev pub EachGridHolds : Type 0
EachGridHolds = (grid : GridView) → IsGrid grid → (words : WordsView) × Holds grid words

-- No grid holds two different lists of codewords.
abbrev pub HeldWordsAreOne : Type 0
HeldWordsAreOne = (grid : GridView) (v w : WordsView) → Holds grid v → Holds grid w → v ≡ w

-- All codewords of a size can be laid in some grid.
abbrev pub WordsAreLaid : Type 0
WordsAreLaid = (words : WordsView) → IsWords words → (grid : GridView) × IsLaid words grid

-- No codewords are laid in two different grids.
abbrev pub LaidGridIsOne : Type 0
LaidGridIsOne = (words : WordsView) (g h : GridView) → IsLaid words g → IsLaid words h → g ≡ h
