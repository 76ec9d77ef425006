-- What the crates above cite of the proofs of this one: facts of its definitions.
pub use Rattle.dm_place.proofs.Bits.{has, digit-has, sum_of_digits}
unfoldable pub use Rattle.dm_place.proofs.FewerTests.{few_shapes}
pub use Rattle.dm_place.proofs.FewerTests.{shapes-few}
pub use Rattle.dm_place.proofs.FirstItem.{goes_first}
pub use Rattle.dm_place.proofs.HeldWords.{words_of, length-words_of, holds_words_of, words_are_bytes, one_list}
pub use Rattle.dm_place.proofs.InsideShapes.{cells_inside, matrix_facts, MatrixFacts}
pub use Rattle.dm_place.proofs.OnePlace.{eight}
pub use Rattle.dm_place.proofs.PlaceOrder.{ArePlaces, lies_in, all_are_places, length-places_in_order, none_fixed}
pub use Rattle.dm_place.proofs.PlaceOrder.{one_bit, some_bit, place_at, is_place_list}
pub use Rattle.dm_place.proofs.PlacementRows.{at_found, once_at_sides, count_at_sides, swept_at_sides}
pub use Rattle.dm_place.proofs.Pointwise.{same_by_pointwise}
pub use Rattle.dm_place.proofs.Ranges.{range-append, all_at, all_below, filter_skip, filter_keep, same_tests}
pub use Rattle.dm_place.proofs.TestedSweep.{inside_test}
