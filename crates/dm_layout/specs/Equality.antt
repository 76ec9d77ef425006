-- What `==` gives for grids and for codewords: whether the sides and what they hold agree, as for symbols.
use Rattle.std.specs.Prelude.{Bool}
use Rattle.std.specs.Ordering.{on}
use Rattle.std.specs.Cmp.{IsEquivalence, IsPartialEquivalence, partial_equiv_from_equiv, on_equiv}
use Rattle.dm_layout.specs.symbols.Equality as symbols
use Rattle.dm_layout.specs.Grid.{GridView, symbol_modules}
use Rattle.dm_layout.specs.Words.{WordsView, symbol_words}

-- Two grids are equal if they are so as modules of symbols.
abbrev pub equal_grids : GridView → GridView → Bool
equal_grids = on symbol_modules symbols.equal_modules

-- The codewords of two squares are equal if they are so as codewords of symbols.
abbrev pub equal_words : WordsView → WordsView → Bool
equal_words = on symbol_words symbols.equal_words

-- Equality of grids is an equivalence.
pub grids_equiv : IsEquivalence equal_grids
grids_equiv = on_equiv symbol_modules symbols.modules_equiv

-- So it is a partial equivalence too.
pub grids_per : IsPartialEquivalence equal_grids
grids_per = partial_equiv_from_equiv grids_equiv

-- Equality of codewords is an equivalence.
pub words_equiv : IsEquivalence equal_words
words_equiv = on_equiv symbol_words symbols.words_equiv

-- So it is a partial equivalence too.
pub words_per : IsPartialEquivalence equal_words
words_per = partial_equiv_from_equiv words_equiv
