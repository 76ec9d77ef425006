use Rattle.std.proofs.Common.{refl}
use Rattle.gf301.specs.Field.{◌⊗◌, carryless, modulo_301, raise}
use Rattle.gf301.proofs.laws.powers_and_products_by_number.Goals as goal

pub returns-clause-power_8 : goal.returns-clause-power_8
unfolding raise ◌⊗◌ carryless modulo_301
returns-clause-power_8 c = refl

pub returns-clause-power_15 : goal.returns-clause-power_15
unfolding raise ◌⊗◌ carryless modulo_301
returns-clause-power_15 c = refl

pub returns-clause-power_28 : goal.returns-clause-power_28
unfolding raise ◌⊗◌ carryless modulo_301
returns-clause-power_28 c = refl

pub returns-clause-power_254 : goal.returns-clause-power_254
unfolding raise ◌⊗◌ carryless modulo_301
returns-clause-power_254 c = refl

pub returns-clause-product_122 : goal.returns-clause-product_122
unfolding raise ◌⊗◌ carryless modulo_301
returns-clause-product_122 c = refl

pub returns-clause-product_20 : goal.returns-clause-product_20
unfolding raise ◌⊗◌ carryless modulo_301
returns-clause-product_20 c = refl
