use Rattle.dm_layout.proofs.symbols.SlotPlaces.{no_slots}
use Rattle.dm_layout.proofs.symbols.slot_rows.Slots.empty.Goals as goal

pub returns : goal.returns
returns g c = no_slots g.row.BYTES g.row.COUNT
