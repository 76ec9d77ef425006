-- Where the names come from that several proofs of this crate use: std, the crates below, and the definitions.
pub use Rattle.dm_layout.specs.Grid.{GridView, IsGrid, is_dark_in, square_by, symbol_modules}
pub use Rattle.dm_layout.specs.Holds.{Holds, IsLaid}
pub use Rattle.dm_layout.specs.Placement.{places_from}
pub use Rattle.dm_layout.specs.Sizes.{IsGreatest, IsRow, SizeRow, block_length, largest_mapping, largest_side}
pub use Rattle.dm_layout.specs.Sizes.{longest_block, most_across, most_grid_blocks, most_grid_codewords, most_grid_data}
pub use Rattle.dm_layout.specs.Sizes.{regions_across, row_for_words, row_of_entry, row_with_side, symbol_size}
pub use Rattle.dm_layout.specs.Words.{symbol_words}
pub use Rattle.dm_layout.specs.declared.symbols.borders.TheConstants.{EVEN_COLUMNS, EVEN_END}
pub use Rattle.dm_layout.specs.declared.symbols.narrow_rows.TheConstants.{NARROW_LOW_THREE_BITS, NARROW_LOW_TWO_BITS}
pub use Rattle.dm_layout.specs.declared.symbols.pair.Pair.{Pair}
pub use Rattle.dm_layout.specs.declared.symbols.size.SizeChoice.{SizeChoice}
pub use Rattle.dm_layout.specs.declared.symbols.wide_rows.TheConstants.{LOW_THREE_BITS, LOW_TWO_BITS}
pub use Rattle.dm_layout.specs.inner.Keeping.{IsKept, kept_grid, kept_words}
pub use Rattle.dm_layout.specs.symbols.Blocks.{block_of}
pub use Rattle.dm_layout.specs.symbols.Border.{border_is_dark, is_border, mapped_cell}
pub use Rattle.dm_layout.specs.symbols.Equality.{equal_modules, equal_sizes}
pub use Rattle.dm_layout.specs.symbols.Sizes.{IsSize, SizeEntry, area, block_check, block_data, codeword_count}
pub use Rattle.dm_layout.specs.symbols.Sizes.{count_in_block, entry_for, entry_with, mapping_columns, mapping_rows}
pub use Rattle.dm_layout.specs.symbols.Sizes.{most_block_check, most_blocks, most_cells, most_codewords, most_columns}
pub use Rattle.dm_layout.specs.symbols.Sizes.{most_data, most_modules, most_rows, takes}
unfoldable pub use Rattle.dm_layout.specs.symbols.Sizes.{size_table}
pub use Rattle.dm_layout.specs.symbols.Symbols.{IsSymbol, SymbolView, is_dark_bit, module_at, rows_by}
pub use Rattle.dm_layout.specs.symbols.Words.{AreOfSize, IsWords, WordsView, first_words, words_with}
pub use Rattle.dm_layout.specs.symbols.inner.BorderMasks.{AreBorders, AreRuled, sure_faults_in}
pub use Rattle.dm_layout.specs.symbols.SureFaults.{is_sure_fault}
pub use Rattle.dm_layout.specs.symbols.inner.Drawing.{drawn_colour, inner_colour, mapping_line}
pub use Rattle.dm_layout.specs.symbols.inner.Keeping.{AreKeptIn, kept_symbol}
pub use Rattle.dm_layout.specs.symbols.inner.Laying.{by_anchors, corner_marks, folded, lowered, moved_in, scattered}
pub use Rattle.dm_layout.specs.symbols.inner.Laying.{with_byte}
pub use Rattle.dm_layout.specs.symbols.inner.Pairs.{number_of, numbers_of, pair}
pub use Rattle.dm_layout.specs.symbols.inner.Reading.{look_in, marks_in, whole_row}
pub use Rattle.dm_layout.specs.symbols.inner.RowDrawing.{IsDrawn}
pub use Rattle.dm_layout.specs.symbols.inner.Slots.{HasSlot, HasSlots, IsJoined, bits_in, bytes_of, first_column}
pub use Rattle.dm_layout.specs.symbols.inner.Slots.{less_of, most_of, order_of, rest_order_of, reversed_bits}
pub use Rattle.dm_layout.specs.symbols.inner.Slots.{slot_byte, slot_numbers, slot_of, slot_rows}
unfoldable pub use Rattle.dm_layout.specs.symbols.inner.Slots.{in_bytes}
pub use Rattle.dm_layout.specs.symbols.inner.Widened.{IsMoved, IsWidened, round, source}
pub use Rattle.dm_layout.specs.symbols.inner.Widths.{most_wide, wide_matrix}
pub use Rattle.dm_place.proofs.Exported.{all_below, at_found, cells_inside, count_at_sides, digit-has, few_shapes}
pub use Rattle.dm_place.proofs.Exported.{holds_words_of, inside_test, none_fixed, once_at_sides, one_bit, range-append}
pub use Rattle.dm_place.proofs.Exported.{some_bit, words_of}
pub use Rattle.dm_place.specs.Border.{edge_is_dark, fixed_is_dark, is_fixed, is_on_edge, symbol_line}
pub use Rattle.dm_place.specs.Holding.{HoldsBits, bit_of, digit}
pub use Rattle.dm_place.specs.Placement.{At, CellsInside, EachCellOnce, IsPlace, cells_of, places_in_order, shapes}
pub use Rattle.dm_place.specs.Placement.{wrapped_cell}
pub use Rattle.dm_place.specs.Sides.{row_with_sides}
pub use Rattle.dm_place.specs.declared.cells.Place.{Place}
pub use Rattle.dm_place.specs.declared.shape.Cell.{Cell}
pub use Rattle.dm_place.specs.declared.shape.Shape.{Shape}
pub use Rattle.dm_place.specs.declared.shape.Shape.TheVariants.{Corner1, Corner2, Corner3, Corner4, Standard}
pub use Rattle.std.proofs.Common.{Bool, List, None, Option, Some, [], ap, arith, below_more, cond, drop, drop-cons}
pub use Rattle.std.proofs.Common.{eq-eqb, false, get_or, get_or-set_other, get_or-set_same, if◌then◌else◌, inl, inr}
pub use Rattle.std.proofs.Common.{length, length-take, lit<, map, nat_eq, nat_le, nat_lt, not, refl, replicate, rules}
pub use Rattle.std.proofs.Common.{set, subst, suc, sym, take, true, zero, ℕ, ◌%◌, ◌&&◌, ◌*◌, ◌++◌, ◌+◌, ◌-◌, ◌/◌, ◌<◌}
pub use Rattle.std.proofs.Common.{◌^◌, ◌||◌, ◌∙◌, ◌∷◌, ◌≡◌, ◌≢◌, ◌≤◌, ◌⊎◌}
pub use Rattle.std.proofs.Math.Bool.{and-false, and-or_distrib_left, and-true, or-false, or_assoc}
pub use Rattle.std.proofs.Math.Nat.{div-add-mod, div-div-eq-div-mul, div-eq_of_lt, lt_of_mul-lt-mul_right, mod-eq_of_lt}
pub use Rattle.std.proofs.Math.Nat.{mod-lt, mul-div_cancel_left, mul-le-mul_left, mul-le-mul_right, mul-mod_right}
pub use Rattle.std.proofs.Math.Nat.{pow-suc}
pub use Rattle.std.proofs.Math.Pow.{pow_mono, pow_pos}
pub use Rattle.std.proofs.Math.Seq.{drop-append_seam, take-append_seam, take-set-lt}
pub use Rattle.std.proofs.lemmas.Bool.{and_parts, cases_eq, cases_lt, eqb-false, eqb-true, le-leb, le-ltb, leb-false}
pub use Rattle.std.proofs.lemmas.Bool.{leb-true, lt-leb, lt-ltb, ltb-false, ltb-true, ne_eqb, true≢false}
pub use Rattle.std.proofs.lemmas.Bool.Decides.{Decides-and, Decides-like, Decides-or, nat_tests, same_from_decides}
pub use Rattle.std.proofs.lemmas.Grind.{common_steps, same_number_lists}
pub use Rattle.std.proofs.lemmas.List.{get_or-drop, get_or-map, get_or-take, get_or_append_left, length-append}
pub use Rattle.std.proofs.lemmas.List.{length-drop, length-map, length-replicate, length-set, length-take-le, map-set}
pub use Rattle.std.proofs.lemmas.List.{same_lists, take-replicate, take_all}
pub use Rattle.std.proofs.lemmas.List.Elements.{All-from_get_or, All-from_recursion, All-get_or, All-weaker}
pub use Rattle.std.proofs.lemmas.List.Elements.{recursion_from_All}
pub use Rattle.std.proofs.lemmas.List.Folds.{Any-from_list_any}
pub use Rattle.std.proofs.lemmas.List.FromFn.{get_or-map-range_with_len, length-map-range_with_len}
pub use Rattle.std.proofs.lemmas.List.Sums.{AllPass-from_list_all, sum_by_push}
pub use Rattle.std.proofs.lemmas.Nat.{and_le_l, and_le_r, div-add-mod', div-mul-add, mod-mul-add, mod_below, mul-add-lt}
pub use Rattle.std.proofs.lemmas.Nat.{ones-le, ones_cat, or_lt, pow-add, pow_below}
pub use Rattle.std.proofs.lemmas.Nat.Bits.{bit_at-lt, bit_at-zero, bit_at_above, bit_at_and, bit_at_cat_high}
pub use Rattle.std.proofs.lemmas.Nat.Bits.{bit_at_cat_low, bit_at_set_other, bit_at_set_same}
pub use Rattle.std.specs.Bool.{beq}
pub use Rattle.std.specs.Cmp.{booleans_Decides}
pub use Rattle.std.specs.Cmp.Lexicographic.{pointwise}
pub use Rattle.std.specs.Int.{bit_at, from_le_bytes, to_le_bytes, w128}
pub use Rattle.std.specs.Int.Bits.{or_shifted_r}
pub use Rattle.std.specs.Int.RustNames.{bit_or}
pub use Rattle.std.specs.List.{AllByRecursion, list_all, list_any, range_with_len}
pub use Rattle.std.specs.Prelude.{All, Decides, IfNone, IfSome, count_by, count_ones, find, min, sum_by}
pub use borrow.Rule.Slice.PartMut.{put_mid}
pub use lib.Bits.{bit_and}
