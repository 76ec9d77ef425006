use Rattle.dm_command.proofs.Statuses.{largest_status}
use Rattle.dm_command.proofs.laws.largest_status_is_the_whole.Goals as goal

pub returns : goal.returns
returns c = largest_status
