use Rattle.dm_code.proofs.Distance.{codewords_apart, codewords_one}
use Rattle.dm_code.proofs.laws.codewords_lie_apart.Goals as goal

pub returns : goal.returns
returns c = record { apart = codewords_apart; one = codewords_one }
