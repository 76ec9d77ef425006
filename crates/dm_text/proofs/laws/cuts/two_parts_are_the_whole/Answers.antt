use Rattle.dm_text.proofs.Cuts.{two_parts}
use Rattle.dm_text.proofs.laws.cuts.two_parts_are_the_whole.Goals as goal

pub returns : goal.returns
returns c = two_parts
