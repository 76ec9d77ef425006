use Rattle.dm_layout.proofs.PlacementRows.{each_size_swept}
use Rattle.dm_layout.proofs.laws.placement.sweep_is_the_closed_form.Goals as goal

pub returns : goal.returns
returns c = each_size_swept
