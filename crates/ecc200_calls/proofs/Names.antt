-- Where the names come from that the proofs of this crate use: std, the crates below, and the definitions.
pub use Rattle.dm_layout.proofs.symbols.Exported.{at_found, cut_cell, found_passes, off_edge, placed_size, region_below}
pub use Rattle.dm_layout.proofs.symbols.Exported.{rest_more, row_inside, size_facts, symbol_line-form, symbol_line-one}
pub use Rattle.dm_layout.specs.symbols.Sizes.{IsSize, SizeEntry, area, codeword_count, entry_for, entry_with}
pub use Rattle.dm_layout.specs.symbols.Sizes.{mapping_columns, mapping_rows, most_codewords, most_data, most_modules}
pub use Rattle.dm_layout.specs.symbols.Sizes.{size_table, takes}
pub use Rattle.dm_layout.specs.symbols.Symbols.{IsSymbol, SymbolView, is_dark_bit, module_at, rows_of}
pub use Rattle.dm_layout.specs.symbols.Words.{IsWords, WordsView, data_of}
pub use Rattle.dm_place.proofs.Exported.{ArePlaces, MatrixFacts, all_are_places, length-places_in_order, matrix_facts}
pub use Rattle.dm_place.proofs.Exported.{none_fixed, once_at_sides, one_bit, place_at}
pub use Rattle.dm_place.specs.Placement.{At, CellsInside, EachCellOnce, IsPlace, ShapesInside, bits_from, places_from}
pub use Rattle.dm_place.specs.Placement.{places_in_order, shapes}
pub use Rattle.dm_symbol.proofs.Exported.{content_is, content_normal_alike, content_read_alike, faults_alike}
pub use Rattle.dm_symbol.proofs.Exported.{form_written_is_plain, light_rows, no_content_written, no_words_written}
pub use Rattle.dm_symbol.proofs.Exported.{none_lost, read_content_right, reads_content_by_result}
pub use Rattle.dm_symbol.proofs.Exported.{refused_content_result, restored_alike, restored_back, restored_is_one}
pub use Rattle.dm_symbol.proofs.Exported.{restored_reads, said_alike, said_content_result, shown_alike, usual_fault}
pub use Rattle.dm_symbol.specs.ContentReading.{ContentReadResult, ContentReadingView, ReadsContent, content_reading_of}
pub use Rattle.dm_symbol.specs.Messages.{IsItem, IsMessage, most_spelled}
pub use Rattle.dm_symbol.specs.NormalContent.{ContentFits, IsContentWritten}
pub use Rattle.dm_symbol.specs.NormalOutcomes.{IsNormalOrFault}
pub use Rattle.dm_symbol.specs.SymbolLaws.{AreLight}
pub use Rattle.dm_symbol.specs.declared.ContentReadFault.{ContentReadFault}
pub use Rattle.dm_symbol.specs.declared.ContentReadFault.TheVariants.{Block, Words}
pub use Rattle.dm_symbol.specs.declared.Extent.{Extent}
pub use Rattle.dm_symbol.specs.declared.Extent.TheVariants.{Usual, Wide}
pub use Rattle.dm_symbol.specs.declared.Form.TheVariants.{Profiled, Smallest}
pub use Rattle.dm_symbol.specs.declared.Head.{Head}
pub use Rattle.dm_symbol.specs.declared.Item.{Item}
pub use Rattle.dm_symbol.specs.declared.Mark.{Mark}
pub use Rattle.dm_symbol.specs.declared.Profile.{Profile}
pub use Rattle.dm_symbol.specs.declared.ReadFault.TheVariants.{Border}
pub use Rattle.dm_symbol.specs.declared.SizeChoice.{SizeChoice}
pub use Rattle.dm_symbol.specs.declared.SizeChoice.TheVariants.{Square}
pub use Rattle.dm_symbol.specs.declared.TooLong.{TooLong}
pub use Rattle.dm_words.specs.ContentExtents.{as_content}
pub use Rattle.dm_words.specs.Contents.{AreMarks, ContentView, IsContent}
pub use Rattle.ecc200_calls.specs.Contents.{IsContentOf, IsFirstWrong, mark_shown, marks_of}
pub use Rattle.ecc200_calls.specs.Inspections.{IsInspectResult, IsInspectionGiven, corrected_shown, erased_shown}
pub use Rattle.ecc200_calls.specs.Inspections.{left_shown, lost, restored}
pub use Rattle.ecc200_calls.specs.Items.{number_of}
pub use Rattle.ecc200_calls.specs.Modules.{AreDoubtful, AreModulesOf, IsGivenFault, module_of, modules_of}
pub use Rattle.ecc200_calls.specs.Places.{ArePlacesOf, bit_place, border_place, fixed_place, modules, no_places}
pub use Rattle.ecc200_calls.specs.Places.{no_size, nothing}
pub use Rattle.ecc200_calls.specs.Readings.{IsReadResult, IsReadingGiven}
pub use Rattle.ecc200_calls.specs.Scans.{IsLimit, LeavesCorrections, SoughtResult, usual_limit}
pub use Rattle.ecc200_calls.specs.Symbols.{IsNormalGiven, IsNormalResult, ProfileResult, no_symbol, symbol_shown}
pub use Rattle.ecc200_calls.specs.Writings.{IsContentGiven, IsHowFault, IsWriteResult, IsWritingGiven, symbol_given}
pub use Rattle.ecc200_calls.specs.declared.mark.MarkNumbers.{MarkNumbers}
pub use Rattle.ecc200_calls.specs.declared.place_table.PlaceOut.{PlaceOut}
pub use Rattle.ecc200_calls.specs.declared.symbol.SymbolOut.{SymbolOut}
pub use Rattle.ecc200_calls.specs.inner.PlaceSteps.{structure_by, structure_place, with_bits}
pub use Rattle.ecc200_calls.specs.inner.Restored.{HasRoomToSay, IsAtLimit, IsRestored, IsRestoredFor}
pub use Rattle.ecc200_calls.specs.inner.UnpackedCells.{unpacked_cells, unpacked_row}
pub use Rattle.ecc200_calls.specs.Modules.{is_dark_number, is_dark_number as is_dark}
pub use Rattle.std.proofs.Common.{Bool, Err, Fits, IsSome, List, None, Ok, Option, Result, Some, [], ap, arith}
pub use Rattle.std.proofs.Common.{below_more, bit_and, bit_or, cond, drop, eqb, false, get_or, get_or-set_other}
pub use Rattle.std.proofs.Common.{get_or-set_same, inl, inr, length, length-append, length-take, map, min, mul_comm}
pub use Rattle.std.proofs.Common.{nat_eq, nat_le, not, refl, rules, set, subst, suc, sym, take, true, w8, zero, ℕ, ◌%◌}
pub use Rattle.std.proofs.Common.{◌&&◌, ◌*◌, ◌++◌, ◌+◌, ◌-◌, ◌/◌, ◌<◌, ◌^◌, ◌||◌, ◌∙◌, ◌∷◌, ◌≡◌, ◌≢◌, ◌≤◌, ◌⊎◌}
pub use Rattle.std.proofs.Math.Facts.{Fits-bits}
pub use Rattle.std.proofs.Math.Nat.{div-div-eq-div-mul, mod-eq_of_lt, mul-le-mul_right, pow-suc}
pub use Rattle.std.proofs.Math.Seq.{get_or-append_right, take-append_seam}
pub use Rattle.std.proofs.lemmas.Bool.{and_parts, cases_lt, eqb-true, false≢true, le-leb, leb-true, true≢false}
pub use Rattle.std.proofs.lemmas.Bool.Decides.{eqb_tells, nat_tests}
pub use Rattle.std.proofs.lemmas.List.{append-nil, append_assoc, drop-drop, get_or-drop, get_or-map, get_or-take}
pub use Rattle.std.proofs.lemmas.List.{get_or_append_left, length-drop, length-map, length-set, length-take-le}
pub use Rattle.std.proofs.lemmas.List.{map-append, map-id, take-append-drop, take-take, take_all, take_more}
pub use Rattle.std.proofs.lemmas.List.Elements.{All-from_get_or, All-from_recursion, All-get_or, All-head, All-tail}
pub use Rattle.std.proofs.lemmas.List.Elements.{recursion_from_All}
pub use Rattle.std.proofs.lemmas.List.FromFn.{fill_by_all, get_or-map-range_with_len, length-map-range_with_len}
pub use Rattle.std.proofs.lemmas.List.Sums.{AllPass-from_list_all}
pub use Rattle.std.proofs.lemmas.Simd.{bit_mask_l, bitmask_splat, get_or-chunk, length-chunk, length-put_chunk}
pub use Rattle.std.proofs.lemmas.Simd.{mask_l-lt, put_chunk_is, take_more_put_chunk}
pub use Rattle.std.specs.List.{AllByRecursion, flat_map, list_all, range_with_len}
pub use Rattle.std.specs.Prelude.{All, IfErr, IsNone, OnOk, find, option_map}
