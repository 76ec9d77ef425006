use Rattle.dm_layout.proofs.PlacementRows.{each_size_counted}
use Rattle.dm_layout.proofs.laws.placement.shapes_are_the_codewords.Goals as goal

pub returns : goal.returns
returns c = each_size_counted
