use Rattle.dm_layout.proofs.Squares.{every_grid_holds, one_list}
use Rattle.dm_layout.proofs.laws.holding.each_grid_holds_codewords.Goals as goal

pub returns : goal.returns
returns c = record { some = every_grid_holds; one = one_list }
