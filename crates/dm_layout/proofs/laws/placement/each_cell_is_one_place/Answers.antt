use Rattle.dm_layout.proofs.PlacementRows.{each_size_once}
use Rattle.dm_layout.proofs.laws.placement.each_cell_is_one_place.Goals as goal

pub returns : goal.returns
returns c = each_size_once
