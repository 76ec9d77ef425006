use Rattle.dm_words.proofs.Names.{Wide, macro_text, recursion_from_All, IsItem}
use Rattle.dm_words.proofs.AsciiWords.{ascii_spells}
use Rattle.dm_words.proofs.SaidContents.{said_is_content}
use Rattle.dm_words.proofs.SpelledContents.{macro_short}
use Rattle.dm_words.proofs.laws.macro_spells_its_text.Goals as goal

pub returns : goal.returns
returns c = record {
  short = macro_short;
  written_out = λ digit count words text m le. (
      let said = said_is_content Wide words _ (macro_short digit words text m) in
      ascii_spells Wide (macro_text digit text) count (recursion_from_All IsItem (macro_text digit text) said.items));
}
