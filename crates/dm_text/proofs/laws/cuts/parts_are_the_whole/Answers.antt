use Rattle.dm_text.proofs.Cuts.{all_parts}
use Rattle.dm_text.proofs.laws.cuts.parts_are_the_whole.Goals as goal

pub returns : goal.returns
returns c = all_parts
