-- What the crates above cite of the proofs of this one: facts of its definitions, and what they speak of.
unfoldable pub use Rattle.gf301.proofs.Additive.{all_below}
pub use Rattle.gf301.proofs.Additive.{all_below_at, xor_swap, xor_twice}
unfoldable pub use Rattle.gf301.proofs.AddedLanes.{IsAddedTo}
pub use Rattle.gf301.proofs.AddedLanes.{IsDoneTo, added_more, done_more}
pub use Rattle.gf301.proofs.FieldLaws.{inverse_of, power_injective, product_assoc, product_below, product_cancel}
pub use Rattle.gf301.proofs.FieldLaws.{product_cancels, product_comm, product_inverse, product_low_left}
pub use Rattle.gf301.proofs.FieldLaws.{product_one_left, product_one_middle, product_one_right, product_positive}
pub use Rattle.gf301.proofs.FieldLaws.{product_sum_left, product_sum_right, product_zero_left, product_zero_right}
pub use Rattle.gf301.proofs.FieldLaws.{raise_add, raise_below, raise_mul, raise_positive, raise_swap, sum_below}
pub use Rattle.gf301.proofs.FieldLaws.{sum_zero}
unfoldable pub use Rattle.gf301.proofs.Lists.{nonzeros, plus, scale}
pub use Rattle.gf301.proofs.Series.{conv_below, conv_comm, conv_cons, conv_first, conv_nothing, conv_push}
pub use Rattle.gf301.proofs.Series.{conv_same_left, conv_same_right, conv_scale_left, conv_sum_left, conv_swap}
pub use Rattle.gf301.proofs.Series.{conv_zero, product_at_zero, product_zero_at, shift}
unfoldable pub use Rattle.gf301.proofs.PolyLaws.{quotient}
pub use Rattle.gf301.proofs.PolyLaws.{bytes_plus, bytes_quotient, bytes_times, bytes_values_from, factor_value}
pub use Rattle.gf301.proofs.PolyLaws.{get_or-plus, get_or-times, get_or-values_from, length-values_from, length_plus}
pub use Rattle.gf301.proofs.PolyLaws.{length_quotient, length_scale, length_times, root_divides, same_from_values}
pub use Rattle.gf301.proofs.PolyLaws.{same_values, times_assoc, value_below, value_plus, value_push, value_scale}
pub use Rattle.gf301.proofs.PolyLaws.{value_shift, value_times, value_zeros, values_from_push}
pub use Rattle.gf301.proofs.GeneratorLaws.{generator_first, generator_is, generator_length, generator_positive}
pub use Rattle.gf301.proofs.GeneratorLaws.{generator_root, value_one}
unfoldable pub use Rattle.gf301.proofs.Roots.{roots, roots_step}
pub use Rattle.gf301.proofs.Roots.{quotient_more, roots_le, zero_step}
unfoldable pub use Rattle.gf301.proofs.Weights.{weigh, weighted}
pub use Rattle.gf301.proofs.Weights.{bytes_cons, bytes_head, bytes_tail, bytes_weighted, length-weighted}
pub use Rattle.gf301.proofs.Weights.{nonzeros_weighted, value_weigh, weigh_same, weigh_weighted, zeros_from_sums}
pub use Rattle.gf301.proofs.Weights.{zeros_parts}
unfoldable pub use Rattle.gf301.proofs.Locate.{laid, locate, sums}
pub use Rattle.gf301.proofs.Locate.{connects, conv_laid, head-locate, laid_sums, length-locate, same_functions}
pub use Rattle.gf301.proofs.Locate.{zeros-locate}
