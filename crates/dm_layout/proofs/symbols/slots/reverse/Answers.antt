use Rattle.dm_layout.proofs.symbols.SlotRows.{reversed_in_table}
use Rattle.dm_layout.proofs.symbols.slots.reverse.Goals as goal

pub returns : goal.returns
returns c = reversed_in_table c.args.byte c.ranges.byte.fits
