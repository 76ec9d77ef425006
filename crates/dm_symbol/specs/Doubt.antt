-- Doubtful modules: those of which a caller knows that their colours tell nothing, since there is a blot, a glare, a
-- torn corner, a weak dot. They are given as modules of their own, dark where a module of the symbol is doubtful and
-- light elsewhere, in their borders as anywhere, or as `None` where no module is. They are asked by row and column; the
-- calls ask for modules of the symbol's size. A doubtful module of the fixed square changes nothing.
-- An erased codeword takes one check codeword, and a wrong one two (ISO/IEC 16022, error checking and correction). That
-- a caller may name doubtful modules, that all check codewords of a block may be spent so, in every size and with none
-- kept back for detection, and that a doubtful border module is never counted as wrong, are rules of this project. So a
-- block that has erased places and no check codeword left tells nothing of whether it was right.
use Rattle.std.specs.Prelude.{ℕ, Bool, Option}
use Rattle.std.specs.List.{range_with_len, list_any}
use Rattle.dm_place.specs.Border.{symbol_line}
use Rattle.dm_place.specs.Placement.{place}
use Rattle.dm_layout.specs.symbols.Sizes.{SizeEntry, mapping_rows, mapping_columns}
use Rattle.dm_layout.specs.symbols.Symbols.{SymbolView}
pub use Rattle.dm_layout.specs.symbols.SureFaults.{is_doubtful, sure_fault_count}

-- ---- codewords

-- A codeword, which is counted from 0 in the symbol, is erased if one of its eight modules, or more, is doubtful: the
-- module at which the place of bit 1, 2 .. or 8 lies. Beyond the symbol's codewords this means nothing.
abbrev pub is_erased : SizeEntry → Option SymbolView → ℕ → Bool
is_erased size doubtful word =
    list_any (λ bit. let cell = place (mapping_rows size) (mapping_columns size) word bit in
    is_doubtful doubtful (symbol_line size.region_rows cell.row) (symbol_line size.region_columns cell.column))
    (range_with_len 1 8)
