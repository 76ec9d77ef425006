-- Where the names come from that several proofs of this crate use: std, the crates below, and the definitions.
pub use Rattle.dm_code.proofs.Exported.{codeword_bytes, differs_le, differs_same, near_but_none, near_none_but}
pub use Rattle.dm_code.specs.Codeword.{IsCodeword, IsNear, distance}
pub use Rattle.dm_code.specs.Erased.{IsNearBut, distance_but, erased_places_from}
pub use Rattle.dm_layout.proofs.Exported.{row_facts, same_row}
pub use Rattle.dm_layout.proofs.symbols.Exported.{at_found, blocks_make_words, length_of_block, same_data_by_blocks}
pub use Rattle.dm_layout.proofs.symbols.Exported.{size_facts, word_of_block}
pub use Rattle.dm_layout.specs.Border.{border_fault_count}
pub use Rattle.dm_layout.specs.Grid.{GridView, IsGrid, symbol_modules}
pub use Rattle.dm_layout.specs.Sizes.{IsRow, SizeRow, most_grid_data, row_for_words, row_with_side, symbol_size}
pub use Rattle.dm_layout.specs.declared.symbols.size.SizeChoice.{SizeChoice}
pub use Rattle.dm_layout.specs.declared.symbols.size.SizeChoice.TheVariants.{Square}
pub use Rattle.dm_layout.specs.symbols.Blocks.{block_of, places_of_block}
pub use Rattle.dm_layout.specs.symbols.Border.{is_fault}
pub use Rattle.dm_layout.specs.symbols.Holding.{Holds, IsLaid}
pub use Rattle.dm_layout.specs.symbols.Sizes.{IsSize, SizeEntry, block_check, block_data, block_length, codeword_count}
pub use Rattle.dm_layout.specs.symbols.Sizes.{entry_for, entry_of, mapping_columns, mapping_rows}
pub use Rattle.dm_layout.specs.symbols.Symbols.{IsSymbol, SymbolView}
pub use Rattle.dm_layout.specs.symbols.Words.{WordsView, data_of, first_words}
pub use Rattle.dm_place.specs.Placement.{place}
pub use Rattle.dm_symbol.specs.ContentNormal.{NormalContentResult}
pub use Rattle.dm_symbol.specs.ContentReading.{ContentReadResult, ContentReadingView, ReadsContent, content_reading_of}
pub use Rattle.dm_symbol.specs.Dealings.{IsDealtTwoWays, dealt, erased_by, restarted_place}
pub use Rattle.dm_symbol.specs.Doubt.{is_erased, sure_fault_count}
pub use Rattle.dm_symbol.specs.NormalContent.{IsContentWritten, IsContentWrittenIn, IsNormalOfContent}
pub use Rattle.dm_symbol.specs.NormalGrid.{IsNormalGrid}
pub use Rattle.dm_symbol.specs.NormalOutcomes.{IsNormalGiven, IsNormalOrFault}
pub use Rattle.dm_symbol.specs.Reading.{IsRead, ReadResult, Reads, reading_of}
pub use Rattle.dm_symbol.specs.Restored.{IsRestored}
pub use Rattle.dm_symbol.specs.SmallestContentSymbol.{IsSmallestContentWritten}
pub use Rattle.dm_symbol.specs.SymbolBlocks.{AreCodewordsOf, AreOfSize, first_data, words_with}
pub use Rattle.dm_symbol.specs.SymbolInspection.{IsSymbolInspection}
pub use Rattle.dm_symbol.specs.SymbolLaws.{AreLight, nothing_wrong}
pub use Rattle.dm_symbol.specs.SymbolReading.{AreBlocksMended, AreBlocksNear, AreLost, AreRestored, AreRestoredBy}
pub use Rattle.dm_symbol.specs.SymbolReading.{IsBlockRestored, IsFirstLost, block_reading, block_readings, readings_by}
pub use Rattle.dm_symbol.specs.WrittenContent.{AreChosen, IsWrittenAs}
pub use Rattle.dm_symbol.specs.WrittenWords.{FitChoice}
pub use Rattle.dm_symbol.specs.declared.contents.ContentNormalFault.{ContentNormalFault}
pub use Rattle.dm_symbol.specs.declared.contents.ContentReadFault.{ContentReadFault}
pub use Rattle.dm_symbol.specs.declared.contents.ContentReadFault.TheVariants.{Block, Border}
pub use Rattle.dm_symbol.specs.declared.contents.writing.Form.{Form}
pub use Rattle.dm_symbol.specs.declared.contents.writing.Form.TheVariants.{Profiled, Smallest}
pub use Rattle.dm_symbol.specs.declared.reading.ReadFault.{ReadFault}
pub use Rattle.dm_symbol.specs.declared.reading.Reading.{Reading}
pub use Rattle.dm_symbol.specs.declared.symbol.dealing.Dealing.{Dealing}
pub use Rattle.dm_symbol.specs.declared.symbol.dealing.Dealing.TheVariants.{Restarted, Standard}
pub use Rattle.dm_symbol.specs.declared.symbol.inspection.SymbolInspectionIn.{SymbolInspectionIn}
pub use Rattle.dm_symbol.specs.declared.symbol.reading.BlockReading.{BlockReading}
pub use Rattle.dm_symbol.specs.inner.Marks.{is_mark, marked_in}
pub use Rattle.dm_symbol.specs.inner.Restoring.{AreHeldBy, IsRestarted}
pub use Rattle.dm_symbol.specs.inner.Showing.{IsMended}
pub use Rattle.dm_symbol.specs.inner.Turns.{turned, turned_place}
pub use Rattle.dm_words.proofs.Exported.{identifier_is_there, said_is_one, said_wide, usual_plain}
pub use Rattle.dm_words.specs.ContentExtents.{IsSaidIn, as_content}
pub use Rattle.dm_words.specs.ContentForm.{content_form}
pub use Rattle.dm_words.specs.Contents.{ContentView, IsContent, IsRefused, Says}
pub use Rattle.dm_words.specs.Messages.{IsMessage}
pub use Rattle.dm_words.specs.NormalForm.{normal_form}
pub use Rattle.dm_words.specs.Pads.{padded}
pub use Rattle.dm_words.specs.Spells.{Refused, Spells}
pub use Rattle.dm_words.specs.Symbology.{IsIdentifier}
pub use Rattle.dm_words.specs.declared.extent.Extent.{Extent}
pub use Rattle.dm_words.specs.declared.extent.Extent.TheVariants.{Usual, Wide}
pub use Rattle.dm_words.specs.declared.fault.TooLong.{TooLong}
pub use Rattle.dm_words.specs.declared.item.Item.{Item}
pub use Rattle.dm_words.specs.declared.profile.Profile.{Profile}
pub use Rattle.std.proofs.Common.{Bool, Err, IsErr, IsSome, List, None, Ok, Option, Result, Some, [], ap, arith}
pub use Rattle.std.proofs.Common.{below_more, cond, eqb, false, get_or, inl, inr, length, map, nat_eq, nat_le, not}
pub use Rattle.std.proofs.Common.{refl, replicate, rules, subst, suc, sym, take, true, zero, ℕ, ◌%◌, ◌&&◌, ◌*◌, ◌++◌}
pub use Rattle.std.proofs.Common.{◌+◌, ◌-◌, ◌/◌, ◌<◌, ◌^◌, ◌↔◌, ◌∙◌, ◌∷◌, ◌≡◌, ◌≢◌, ◌≤◌, ◌⊎◌}
pub use Rattle.std.proofs.Math.Seq.{take-append_seam}
pub use Rattle.std.proofs.lemmas.Bool.{agree_below_at, and_from, and_parts, cases_eq, cases_lt, cond_above, cond_below}
pub use Rattle.std.proofs.lemmas.Bool.{eq-eqb, eqb-true, false≢true}
pub use Rattle.std.proofs.lemmas.List.{ext_get_or, get_or-take, get_or_append_left, get_or_push, length-append}
pub use Rattle.std.proofs.lemmas.List.{length-map, length-take, length-take-le, length_push}
pub use Rattle.std.proofs.lemmas.List.Elements.{All-from_get_or, All-get_or, All-take}
pub use Rattle.std.proofs.lemmas.List.FromFn.{get_or-map-range_with_len, length-map-range_with_len}
pub use Rattle.std.proofs.lemmas.List.Sums.{sum_by-cons}
pub use Rattle.std.specs.List.{All, AllByRecursion, range_with_len}
pub use Rattle.std.specs.Prelude.{IfOk, OnErr, OnOk, count_by, find, option_map, sum_by}
