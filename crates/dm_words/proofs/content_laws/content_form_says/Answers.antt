use Rattle.dm_words.proofs.ContentBytes.{content_form_codewords}
use Rattle.dm_words.proofs.ContentForms.{content_form_count}
use Rattle.dm_words.proofs.NormalPlain.{content_form_plain, content_form_says}
use Rattle.dm_words.proofs.content_laws.content_form_says.Goals as goal

pub returns : goal.returns
returns c = record {
  content = content_form_says;
  count = content_form_count;
  codewords = content_form_codewords;
  plain = content_form_plain;
}
