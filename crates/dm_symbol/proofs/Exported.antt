-- What the crates above cite of the proofs of this one: facts of its definitions.
pub use Rattle.dm_layout.proofs.Exported.{cut_cell, sixteen_shown}
pub use Rattle.dm_symbol.proofs.GridNormals.{fits_or_not, normal_grid_fits, normal_grid_is_one, normal_grid_is_there}
pub use Rattle.dm_symbol.proofs.GridNormals.{normal_result_is_there, one_normal_result}
pub use Rattle.dm_symbol.proofs.Grids.{no_more_items_are_read, one_given, read_is_message, read_result_is_there}
pub use Rattle.dm_symbol.proofs.Grids.{usual_fault}
pub use Rattle.dm_symbol.proofs.ContentReadings.{read_content_right, reads_content_by_result}
pub use Rattle.dm_symbol.proofs.LightDoubt.{faults_alike, light_rows, restored_alike, restored_back, said_alike}
pub use Rattle.dm_symbol.proofs.LightDoubt.{shown_alike}
pub use Rattle.dm_symbol.proofs.ContentDoubt.{content_read_alike, content_normal_alike}
pub use Rattle.dm_symbol.proofs.ContentReadSteps.{refused_content_result, said_content_result, restored_reads}
pub use Rattle.dm_symbol.proofs.NormalContents.{one_normal_content_result}
pub use Rattle.dm_symbol.proofs.ChosenWords.{content_is}
pub use Rattle.dm_symbol.proofs.PlainSymbols.{form_written_is_plain}
pub use Rattle.dm_symbol.proofs.SmallestContentSymbols.{no_content_written}
pub use Rattle.dm_symbol.proofs.SquareSizes.{has_that_side}
pub use Rattle.dm_symbol.proofs.SymbolReadings.{none_lost, restored_is_one}
pub use Rattle.dm_symbol.proofs.WrittenWords.{no_words_written}
