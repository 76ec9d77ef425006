use Rattle.std.proofs.Common.{◌%◌, ◌∙◌}
use Rattle.gf301.proofs.FieldLaws.{product_below, product_low_left, product_low_right, product_comm, product_assoc}
use Rattle.gf301.proofs.FieldLaws.{product_sum_right, product_zero_right, product_one_right, product_inverse}
use Rattle.gf301.proofs.FieldLaws.{product_cancels, inverse_of, inverse_below}
use Rattle.gf301.proofs.laws.product_laws.Goals as goal

pub returns-clause-byte : goal.returns-clause-byte
returns-clause-byte c = product_below

pub returns-clause-low_bytes : goal.returns-clause-low_bytes
returns-clause-low_bytes c = λ a b. product_low_left a (b % 256) ∙ product_low_right a b

pub returns-clause-commutative : goal.returns-clause-commutative
returns-clause-commutative c = product_comm

pub returns-clause-associative : goal.returns-clause-associative
returns-clause-associative c = product_assoc

pub returns-clause-distributive : goal.returns-clause-distributive
returns-clause-distributive c = product_sum_right

pub returns-clause-zero : goal.returns-clause-zero
returns-clause-zero c = product_zero_right

pub returns-clause-one : goal.returns-clause-one
returns-clause-one c = product_one_right

pub returns-clause-inverse : goal.returns-clause-inverse
returns-clause-inverse c = λ a l h. (inverse_of a, inverse_below a, product_inverse a l h)

pub returns-clause-cancels : goal.returns-clause-cancels
returns-clause-cancels c = product_cancels
