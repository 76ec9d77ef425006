use Rattle.std.proofs.Common.{arith}
use Rattle.std.proofs.lemmas.Grind.{common_steps}
use Rattle.dm_code.proofs.products.Products.adjust.Goals as goal

pub returns-clause-products : goal.returns-clause-products
returns-clause-products c = c.add_scaled.ensures.counted

pub returns-clause-grown : goal.returns-clause-grown
returns-clause-grown c = λ is i. grind (arith, common_steps)

pub returns-clause-low : goal.returns-clause-low
returns-clause-low c = grind (arith, common_steps)
