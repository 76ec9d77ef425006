-- What the crates above cite of the proofs of this one: facts of its definitions.
pub use Rattle.dm_layout.proofs.symbols.BlockChecks.{check_inside, check_put, finished, finished_front, finished_length}
pub use Rattle.dm_layout.proofs.symbols.BlockChecks.{finished_parts}
pub use Rattle.dm_layout.proofs.symbols.BitRows.{rest_more}
pub use Rattle.dm_layout.proofs.symbols.BlockLemmas.{data_of_block, length_of_block, next_inside, others_stay}
pub use Rattle.dm_layout.proofs.symbols.BlockLemmas.{place_inside}
pub use Rattle.dm_layout.proofs.symbols.BlockLemmas.{put_gives, put_one, same_by_blocks, same_data_by_blocks, stay_one}
pub use Rattle.dm_layout.proofs.symbols.BlockLemmas.{steps_of_block, walk_of_block, word_of_block}
pub use Rattle.dm_layout.proofs.symbols.BlockPlaces.{length-block_of}
pub use Rattle.dm_layout.proofs.symbols.CellLanes.{cut_cell, sixteen_shown}
pub use Rattle.dm_layout.proofs.symbols.DealtWords.{blocks_make_words}
pub use Rattle.dm_layout.proofs.symbols.EqualityLaws.{equal_itself, told_modules}
pub use Rattle.dm_layout.proofs.symbols.FaultCounts.{count_more, sum_more}
pub use Rattle.dm_layout.proofs.symbols.LaidModules.{one_held, one_laid, some_held, some_laid}
pub use Rattle.dm_layout.proofs.symbols.Matrices.{placed_size}
pub use Rattle.dm_layout.proofs.symbols.ModulesLemmas.{module_by, modules_by, same_modules, same_rows_by}
pub use Rattle.dm_layout.proofs.symbols.NoFaults.{IsBordered, bordered_of_no_faults, no_faults, summands_zero}
pub use Rattle.dm_layout.proofs.symbols.SmallestSize.{Rises, enough, found_first, rises_test, weaker_all}
pub use Rattle.dm_layout.proofs.symbols.SymbolLines.{mapping_line-symbol_line, off_border, off_edge, region_below}
pub use Rattle.dm_layout.proofs.symbols.SymbolLines.{row_inside, symbol_line-form, symbol_line-mod, symbol_line-one}
pub use Rattle.dm_layout.proofs.symbols.TableEntries.{block_parts, found_none, found_passes, greatest_of, put_more}
pub use Rattle.dm_layout.proofs.symbols.TableEntries.{same_in_each, same_size, short_block, size_facts, some_block_data}
pub use Rattle.dm_place.proofs.Exported.{at_found}
