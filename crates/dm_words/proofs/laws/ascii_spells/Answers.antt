use Rattle.dm_words.proofs.Names.{◌<◌, recursion_from_All, All-from_recursion, IsItem, ascii, padded}
use Rattle.dm_words.proofs.AsciiWords.{ascii_bytes, ascii_spells}
use Rattle.dm_words.proofs.PadWords.{length-padded, padded_bytes}
use Rattle.dm_words.proofs.laws.ascii_spells.Goals as goal

pub returns : goal.returns
returns c = record {
  message = λ extent m count fit le. ascii_spells extent m count (recursion_from_All IsItem m fit);
  count = λ m count le. length-padded (ascii m) count le;
  codewords = λ m count fit. All-from_recursion (λ w. w < 256) (padded (ascii m) count)
      (padded_bytes (ascii m) count (ascii_bytes m (recursion_from_All IsItem m fit)));
}
