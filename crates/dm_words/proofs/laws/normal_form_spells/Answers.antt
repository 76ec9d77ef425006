use Rattle.dm_words.proofs.Names.{as_content, normal_form}
use Rattle.dm_words.proofs.ContentBytes.{content_form_codewords}
use Rattle.dm_words.proofs.NormalForms.{normal_form_spells, normal_form_items}
use Rattle.dm_words.proofs.NormalForms.{shorter_than_ascii, shorter_than_segment}
use Rattle.dm_words.proofs.PadWords.{length-padded}
use Rattle.dm_words.proofs.PlainForms.{message_is_content}
use Rattle.dm_words.proofs.laws.normal_form_spells.Goals as goal

pub returns : goal.returns
returns c = record {
  message = normal_form_spells;
  count = λ profile m count le. length-padded (normal_form profile m) count le;
  codewords = λ profile m count fit. content_form_codewords profile (as_content m) count (message_is_content m fit);
  items = normal_form_items;
  shorter = shorter_than_ascii;
  segment = shorter_than_segment;
}
