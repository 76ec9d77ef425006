-- Where the names come from that several proofs of this crate use: std, the crates below, and the definitions.
pub use Prim.Native.Nat.{min}
pub use Rattle.dm_layout.specs.declared.symbols.size.SizeChoice.{SizeChoice}
pub use Rattle.dm_layout.specs.symbols.Sizes.{IsSize, SizeEntry, area}
pub use Rattle.dm_words.specs.Ascii.{IsAscii, IsAsciiUnit, ascii, character, digit_pair, digits, fnc1, is_digit, raised}
pub use Rattle.dm_words.specs.Ascii.{single}
pub use Rattle.dm_words.specs.Base256.{IsLengthField, IsSegment, long, randomised, short, to_the_end, written}
pub use Rattle.dm_words.specs.CodeSets.{basic_of, shifted_of}
pub use Rattle.dm_words.specs.Codewords.{codeword_of}
pub use Rattle.dm_words.specs.ContentExtents.{as_content}
pub use Rattle.dm_words.specs.ContentForm.{ascii_with_marks, content_form, form_by, mark_words}
pub use Rattle.dm_words.specs.ContentResults.{HasOneContentResult, IsContentResult}
pub use Rattle.dm_words.specs.Contents.{AreContentParts, AreFrame, AreMarks, AreOpened, ContentView, IsContent}
pub use Rattle.dm_words.specs.Contents.{IsContentFault, IsContentPart, IsOpening, IsRefused, Items, Number, Said, Says}
pub use Rattle.dm_words.specs.Contents.{behind, eci_count, framed, headed, mark, no_head}
pub use Rattle.dm_words.specs.Contents.{part, plain, said_content, said_items, said_marks, word}
pub use Rattle.dm_words.specs.Designations.{AreDesignations, designation, designations, of_content, of_refused}
pub use Rattle.dm_words.specs.Designators.{IsDesignator, designator, eci_word, most_assigned, one, three, two}
pub use Rattle.dm_words.specs.Edifact.{IsEdifactEnd, IsEdifactRun, IsGroup, few_left, first, fourth}
pub use Rattle.dm_words.specs.Edifact.{second, third}
pub use Rattle.dm_words.specs.Faults.{left_out, macro_behind}
pub use Rattle.dm_words.specs.Heads.{IsHead, SpellsHead, appended, head_words, programming}
pub use Rattle.dm_words.specs.Joined.{AreJoined, Piece, gathered, spelled}
pub use Rattle.dm_words.specs.Laws.{AreCodewords, AreRunValues, BeginsNoSpelling}
pub use Rattle.dm_words.specs.Macros.{BeginsFnc1, FramesFnc1, macro_text}
pub use Rattle.dm_words.specs.Messages.{IsItem, IsMessage, byte_of, most_data, most_spelled}
pub use Rattle.dm_words.specs.NormalForm.{has_fnc1, length_numbers, normal_form, one_segment, shorter}
pub use Rattle.dm_words.specs.Pads.{further_pads, padded, pads}
pub use Rattle.dm_words.specs.Parts.{AreParts, IsEnd, IsPart, edifact, pad, run, segment}
pub use Rattle.dm_words.specs.Plain.{FramesNoFnc1, IsPlainForm, IsPlainPart, IsPlainSaid}
pub use Rattle.dm_words.specs.Runs.{IsPair, IsRun, IsRunEnd, last_word, symbol_end, unlatch}
pub use Rattle.dm_words.specs.Smallest.{ArePads, IsPlainestContent, IsSmaller, IsSmallestContentResult, IsTaken}
pub use Rattle.dm_words.specs.Smallest.{SaysThenPads}
pub use Rattle.dm_words.specs.Spells.{Spells}
pub use Rattle.dm_words.specs.Symbology.{IsFnc1Number, IsIdentifier}
pub use Rattle.dm_words.specs.Values.{IsCharacter, IsFiller, IsRest, IsRunValue, IsShifted, IsSpelling}
pub use Rattle.dm_words.specs.Values.{by_shift, lone_shift, nothing, waiting}
pub use Rattle.dm_words.specs.declared.ascii.Unit.{Unit}
pub use Rattle.dm_words.specs.declared.c40.pair.PairsEnd.{PairsEnd}
pub use Rattle.dm_words.specs.declared.c40.set.Basic.{Basic}
pub use Rattle.dm_words.specs.declared.c40.set.CodeSet.{CodeSet}
pub use Rattle.dm_words.specs.declared.c40.set.CodeSet.TheVariants.{C40, Text, X12}
pub use Rattle.dm_words.specs.declared.c40.set.Shift.{Shift}
pub use Rattle.dm_words.specs.declared.c40.set.Shifted.{Shifted}
pub use Rattle.dm_words.specs.declared.codeword.Codeword.{Codeword}
pub use Rattle.dm_words.specs.declared.contents.designator.Designator.{Designator}
pub use Rattle.dm_words.specs.declared.contents.fault.ContentFault.{ContentFault}
pub use Rattle.dm_words.specs.declared.contents.head.Head.{Head}
pub use Rattle.dm_words.specs.declared.contents.mark.Mark.{Mark}
pub use Rattle.dm_words.specs.declared.contents.opening.Opened.{Opened}
pub use Rattle.dm_words.specs.declared.contents.opening.Opening.{Opening}
pub use Rattle.dm_words.specs.declared.contents.opening.Opening.TheVariants.{Framed, Headed, Plain}
pub use Rattle.dm_words.specs.declared.extent.Extent.{Extent}
pub use Rattle.dm_words.specs.declared.extent.Extent.TheVariants.{Usual, Wide}
pub use Rattle.dm_words.specs.declared.fault.TooLong.{TooLong}
pub use Rattle.dm_words.specs.declared.fault.WordFault.{WordFault}
pub use Rattle.dm_words.specs.declared.item.Item.{Item}
pub use Rattle.dm_words.specs.declared.item.Item.TheVariants.{Byte, Fnc1}
pub use Rattle.dm_words.specs.declared.profile.Profile.{Profile}
pub use Rattle.dm_words.specs.declared.profile.Profile.TheVariants.{Ascii, Shorter}
pub use Rattle.dm_words.specs.declared.smallest.edifact.Group.{Group}
pub use Rattle.dm_words.specs.declared.smallest.plan.Begin.{Begin}
pub use Rattle.dm_words.specs.declared.smallest.plan.Begin.TheVariants.{Edifact, One, Rest, Run, Segment, Two}
pub use Rattle.dm_words.specs.declared.smallest.plan.StepBits.{StepBits}
pub use Rattle.dm_words.specs.declared.smallest.row.Costs.{Costs}
pub use Rattle.dm_words.specs.declared.smallest.setting.Setting.{Setting}
pub use Rattle.dm_words.specs.inner.ContentCosts.{AreSaid, IsLeastContentCost, behind_first, first_end, first_text}
pub use Rattle.dm_words.specs.inner.ContentCosts.{marked_cost, view_of}
pub use Rattle.dm_words.specs.inner.ContentScan.{BeginNoEci, BeginsNoFrame, BeginsNoHeadWord, closing_items}
pub use Rattle.dm_words.specs.inner.ContentScan.{macro_header, macro_trailer, opening_head, opening_items}
pub use Rattle.dm_words.specs.inner.ContentScan.{append_by, as_said, content_by, content_of, content_on, content_to}
pub use Rattle.dm_words.specs.inner.ContentScan.{extended, first_content_part, first_designator, first_head}
pub use Rattle.dm_words.specs.inner.ContentScan.{head_length, items_with, mark_by, moved, opened, opening_content}
pub use Rattle.dm_words.specs.inner.ContentsAt.{AreMarksAt, HaveContentFault, IsContentAt}
pub use Rattle.dm_words.specs.inner.CostLanes.{HasRow, least_of}
pub use Rattle.dm_words.specs.inner.Costs.{Going, Groups, IsRightStep, IsWithin, Pairs, Row, at_end, before_words}
pub use Rattle.dm_words.specs.inner.Costs.{begin_at, byte_before, cost_of, digit_first, going_from, going_over}
pub use Rattle.dm_words.specs.inner.Costs.{going_pairs, has_bit, has_edifact, is_basic, is_digit_item, least, leave}
pub use Rattle.dm_words.specs.inner.Costs.{low_values, most_behind, never, no_groups, no_pairs, none_going, or_leave}
pub use Rattle.dm_words.specs.inner.Costs.{or_leave_edifact, pair_first, parts_cost, rest_behind, row, row_pairs}
pub use Rattle.dm_words.specs.inner.Costs.{segment_cost, set_values, shift_values, stay, stay_edifact, step_in, step_of}
pub use Rattle.dm_words.specs.inner.Costs.{unit_cost, values_before, with_ascii}
pub use Rattle.dm_words.specs.inner.Fnc1.{fnc1_number, is_alone, marks_number}
pub use Rattle.dm_words.specs.inner.MarkedForms.{is_plain}
pub use Rattle.dm_words.specs.inner.Scan.Prefixes.{AreBytes, byte_items, edifact_byte, long_count, random_at}
pub use Rattle.dm_words.specs.inner.Scan.Prefixes.{edifact_items, end_length, first_pair, first_part, first_raised}
pub use Rattle.dm_words.specs.inner.Scan.Prefixes.{first_spelling, group_by, group_values, is_one_word, items_in}
pub use Rattle.dm_words.specs.inner.Scan.Prefixes.{pairs_in, part_by, run_fault, run_unless}
pub use Rattle.dm_words.specs.inner.Scan.Results.{item_words, unit_items, unit_words}
pub use Rattle.dm_words.specs.inner.Scan.Walk.{Step, Stops, Takes, Walked, and_before, flat, whats}
pub use Rattle.dm_words.specs.inner.Signs.{KeepsSign, PassesSign, sign_words}
pub use Rattle.dm_words.specs.inner.Ways.{AreWritten, IsLeastCost, IsMacroOf, inner_text}
pub use Rattle.dm_words.specs.inner.Written.{ArePartsWritten, ArePushed, IsEdifactEnded, IsGroupPushed, IsItemPushed}
pub use Rattle.dm_words.specs.inner.Written.{IsPartWritten, NoUnlatchFirst, Waiting, is_empty, part_values}
pub use Rattle.dm_words.specs.inner.Written.{waiting_values}
pub use Rattle.std.proofs.Common.{Bool, Err, List, None, Ok, Option, Result, Some, [], add-one, add-zero, ap}
pub use Rattle.std.proofs.Common.{append_assoc, arith, cond, drop, eqb, false, get_or, inl, inr, leb, length}
pub use Rattle.std.proofs.Common.{length-append, ltb, map, refl, replicate, rules, subst, suc, sym, take, true, w16}
pub use Rattle.std.proofs.Common.{zero, zero-add, ℕ, ◌%◌, ◌*◌, ◌++◌, ◌+◌, ◌-◌, ◌/◌, ◌<◌, ◌^◌, ◌↔◌, ◌∙◌, ◌∷◌, ◌≡◌, ◌≢◌}
pub use Rattle.std.proofs.Common.{◌≤◌, ◌⊎◌}
pub use Rattle.std.proofs.Math.ListN.{set}
pub use Rattle.std.proofs.Math.Seq.{drop-append_seam, drop-cons, take-add, take-append-add, take-suc}
pub use Rattle.std.proofs.lemmas.Bool.{cases_lt, eqb-true, ltb-false}
pub use Rattle.std.proofs.lemmas.Bool.Decides.{nat_tests}
pub use Rattle.std.proofs.lemmas.List.{append-nil, at_drop_all, at_drop_more, drop-drop, drop_all, drop_at, get_or-drop}
pub use Rattle.std.proofs.lemmas.List.{get_or-set_other, get_or-set_same, length-drop, length-map, length-take}
pub use Rattle.std.proofs.lemmas.List.{length-take-le}
pub use Rattle.std.proofs.lemmas.List.{map-append, nil_from_length, take-append-drop, take_all, take_at, take_rest}
pub use Rattle.std.proofs.lemmas.List.Elements.{All-append, All-drop, All-from_recursion, All-take, recursion_from_All}
pub use Rattle.std.proofs.lemmas.Result.{err_from_is_err_and}
pub use Rattle.std.proofs.lemmas.Simd.{tops_compared}
pub use Rattle.std.specs.List.{AllByRecursion}
pub use Rattle.std.specs.Prelude.{All, IsTrue, OnOk, if◌then◌else◌, nat_eq, nat_le, not, slice_get, ◌&&◌, ◌==◌, ◌||◌}
pub use lib.Lanes.{sel_l, top, zip2}
