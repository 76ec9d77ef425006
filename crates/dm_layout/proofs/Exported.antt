-- What the crates above cite of the proofs of this one: facts of its definitions.
pub use Rattle.dm_layout.proofs.symbols.Exported.{cut_cell, sixteen_shown, summands_zero}
pub use Rattle.dm_layout.proofs.BlockLemmas.{blocks_make_words, length_of_block, word_of_block}
pub use Rattle.dm_layout.proofs.GridLemmas.{same_squares, square_of_prefix}
pub use Rattle.dm_layout.proofs.PlacementRows.{count_at_row, once_at_row}
pub use Rattle.dm_layout.proofs.Squares.{every_grid_holds, is_modules, is_size, laid_in_grid, laid_in_modules}
pub use Rattle.dm_layout.proofs.Squares.{laid_somewhere, modules_hold, one_laid, one_list, same_row}
pub use Rattle.dm_layout.proofs.SymbolLines.{lies_inside, no_border, symbol_line-one}
pub use Rattle.dm_layout.proofs.TableRows.{found_row, row_facts, side_fits}
