use Rattle.dm_words.proofs.Names.{rules}
use Rattle.dm_words.proofs.RunWritten.{spelled_low, spelled_raised}
use Rattle.dm_words.proofs.smallest.values.values_of.Goals as goal

pub returns-then-byte-lt128 : goal.returns-then-byte-lt128
returns-then-byte-lt128 c = spelled_low _ _ _ _ _ c.new-values.ensures c.in-Byte.is c.push_low.ensures

pub returns-else-byte-lt128 : goal.returns-else-byte-lt128
returns-else-byte-lt128 c =
    spelled_raised _ _ _ _ _ (search rules) c.in-Byte.is (search rules) c.requires c.push_low-else-byte-lt128.ensures
