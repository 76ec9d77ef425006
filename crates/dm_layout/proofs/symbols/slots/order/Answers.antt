use Rattle.dm_layout.proofs.Names.{arith, common_steps}
use Rattle.dm_layout.proofs.symbols.slots.order.Goals as goal

pub returns-then-side-le56-clause-rest : goal.returns-then-side-le56-clause-rest
returns-then-side-le56-clause-rest c = grind (arith, common_steps)

pub returns-else-side-le56-clause-rest : goal.returns-else-side-le56-clause-rest
returns-else-side-le56-clause-rest c = grind (arith, common_steps)

pub returns-else-side-le56-clause-less : goal.returns-else-side-le56-clause-less
returns-else-side-le56-clause-less c = grind (arith, common_steps)
