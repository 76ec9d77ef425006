use Rattle.dm_layout.proofs.symbols.Matrices.{matrices_agree}
use Rattle.dm_layout.proofs.symbols.laws.sizes.matrices_are_those_of_placement.Goals as goal

pub returns : goal.returns
returns c = matrices_agree
