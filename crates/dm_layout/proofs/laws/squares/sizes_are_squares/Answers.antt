use Rattle.dm_layout.proofs.Squares.{is_square, table_of_squares}
use Rattle.dm_layout.proofs.laws.squares.sizes_are_squares.Goals as goal

pub returns : goal.returns
returns c = record { table = table_of_squares; each = is_square }
