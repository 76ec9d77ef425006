use Rattle.dm_code.proofs.Pairs.{every_multiple}
use Rattle.dm_code.proofs.laws.pairs_are_multiples.Goals as goal

pub returns : goal.returns
returns c = every_multiple
