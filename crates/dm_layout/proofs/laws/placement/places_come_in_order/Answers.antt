use Rattle.dm_place.proofs.Exported.{is_place_list}
use Rattle.dm_layout.proofs.laws.placement.places_come_in_order.Goals as goal

pub returns : goal.returns
returns c n = is_place_list n n
