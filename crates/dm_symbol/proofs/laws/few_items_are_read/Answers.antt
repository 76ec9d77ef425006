use Rattle.dm_symbol.proofs.Grids.{few_items_are_read, no_more_items_are_read}
use Rattle.dm_symbol.proofs.laws.few_items_are_read.Goals as goal

pub returns : goal.returns
returns c = record { by_size = few_items_are_read; by_largest = no_more_items_are_read }
