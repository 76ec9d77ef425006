use Rattle.dm_layout.proofs.Squares.{held_alike, laid_alike}
use Rattle.dm_layout.proofs.laws.squares.grids_hold_as_modules_do.Goals as goal

pub returns : goal.returns
returns c = record { held = held_alike; laid = laid_alike }
