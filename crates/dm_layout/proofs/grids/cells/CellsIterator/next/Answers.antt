use Rattle.dm_layout.proofs.Names.{arith, common_steps}
use Rattle.dm_place.proofs.Exported.{goes_first}
use Rattle.dm_layout.proofs.grids.cells.CellsIterator.next.Goals as goal

pub returns-clause-steps : goal.returns-clause-steps
returns-clause-steps c = grind (arith, common_steps)

pub returns-clause-goes : goal.returns-clause-goes
returns-clause-goes c = goes_first _ (λ _. tt) _ _ _ (returns-clause-steps c)
