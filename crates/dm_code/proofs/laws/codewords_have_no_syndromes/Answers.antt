use Rattle.dm_code.proofs.Codewords.{codeword_bytes}
use Rattle.dm_code.proofs.SyndromeLaws.{no_syndromes}
use Rattle.dm_code.proofs.laws.codewords_have_no_syndromes.Goals as goal

pub returns : goal.returns
returns c = record { bytes = codeword_bytes; syndromes = no_syndromes }
